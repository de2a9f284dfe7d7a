use Rattle.std.proofs.Common.{◌≡◌, ◌≤◌, List, Some, length}
use Rattle.std.specs.List.{slice_get}
use Rattle.mx_reads.specs.Deeds.{Deeds}
use Rattle.mx_stores.specs.Ends.{AreEnds}
use Rattle.mx_stores.specs.Tables.{AreTables}
use Rattle.mx_stores.specs.declared.stores.Table.{Table}
use Rattle.mx_stores.proofs.Choosing.{IsClear}
use Rattle.mx_stores.proofs.reader.first_such.Given as goal

-- the read can stand for none of those before
abbrev pub invariant-loop-here : goal.invariant-loop-here
invariant-loop-here l = record {
  from : l.start ≤ l.here;
  clear : (done : Deeds) (tables : List Table) → AreTables done tables → AreEnds done tables l.ends
      → slice_get tables l.storer ≡ Some l.table → l.storer ≡ l.read.writer
      → IsClear done (length tables) l.read l.table.stores.items l.start l.here;
}
