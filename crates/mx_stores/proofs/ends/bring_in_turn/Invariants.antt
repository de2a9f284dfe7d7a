use Rattle.std.proofs.Common.{◌≡◌, ◌<◌, ◌≤◌, ℕ, Some, length}
use Rattle.std.specs.List.{slice_get}
use Rattle.mx_reads.specs.Deeds.{Deeds}
use Rattle.mx_stores.specs.Ends.{AreEndsOf, AreEndsTo}
use Rattle.mx_stores.specs.Tables.{AreTables}
use Rattle.mx_stores.specs.declared.ends.Ends.{Ends}
use Rattle.mx_stores.specs.declared.stores.Table.{Table}
use Rattle.mx_stores.proofs.ends.bring_in_turn.Given as goal

-- it is done for the tables before, and the others are as they were
abbrev pub invariant-loop-storer : goal.invariant-loop-storer
invariant-loop-storer l = record {
  long : length l.ends ≡ length l.fn.ends;
  each : (done : Deeds) → AreTables done l.tables → AreEndsTo done 0 l.tables l.fn.ends → (u : ℕ) (table : Table) (own : Ends)
      → u < l.storer → slice_get l.tables u ≡ Some table → slice_get l.ends u ≡ Some own
      → AreEndsOf done (length l.tables) u table.stores.items own.of.items;
  left : (u : ℕ) → l.storer ≤ u → slice_get l.ends u ≡ slice_get l.fn.ends u;
}
