use Rattle.std.proofs.Common.{◌≡◌, ℕ, Some, length}
use Rattle.std.specs.List.{slice_get}
use Rattle.mx_stores.specs.Parts.{deeds_of}
use Rattle.mx_stores.specs.Tables.{IsTable}
use Rattle.mx_stores.specs.declared.stores.Table.{Table}
use Rattle.mx_stores.proofs.stores.tables_of.Given as goal

abbrev pub invariant-loop-part : goal.invariant-loop-part
invariant-loop-part l = record {
  long : length l.tables.items ≡ l.part-index;
  each : (u : ℕ) (table : Table) → slice_get l.tables.items u ≡ Some table → IsTable (deeds_of l.parts u) table;
}
