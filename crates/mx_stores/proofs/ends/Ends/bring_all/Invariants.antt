use Rattle.std.proofs.Common.{◌≡◌, Some}
use Rattle.std.specs.List.{slice_get}
use Rattle.mx_reads.specs.Deeds.{Deeds}
use Rattle.mx_stores.specs.Ends.{AreEndsOf}
use Rattle.mx_stores.specs.Tables.{AreTables}
use Rattle.mx_stores.specs.declared.stores.Table.{Table}
use Rattle.mx_stores.proofs.ends.Ends.bring_all.Given as goal

-- by the processes before
abbrev pub invariant-loop-other : goal.invariant-loop-other
invariant-loop-other l = (done : Deeds) (table : Table) → AreTables done l.tables → slice_get l.tables l.storer ≡ Some table
    → AreEndsOf done 0 l.storer table.stores.items l.fn.self.of.items
    → AreEndsOf done l.other l.storer table.stores.items l.self.of.items
