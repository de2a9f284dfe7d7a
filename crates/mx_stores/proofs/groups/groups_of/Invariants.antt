use Rattle.std.proofs.Common.{◌≡◌, ℕ, Some, length}
use Rattle.std.specs.List.{slice_get}
use Rattle.mx_reads.specs.Deeds.{Deeds}
use Rattle.mx_stores.specs.Groups.{IsGroups}
use Rattle.mx_stores.specs.Tables.{AreTables}
use Rattle.mx_stores.specs.declared.groups.Groups.{Groups}
use Rattle.mx_stores.specs.declared.stores.Table.{Table}
use Rattle.mx_stores.proofs.groups.groups_of.Given as goal

abbrev pub invariant-loop-storer : goal.invariant-loop-storer
invariant-loop-storer l = record {
  long : length l.groups.items ≡ l.storer;
  each : (done : Deeds) → AreTables done l.tables → (u : ℕ) (table : Table) (own : Groups) → slice_get l.tables u ≡ Some table
      → slice_get l.groups.items u ≡ Some own → IsGroups table.stores.items own;
}
