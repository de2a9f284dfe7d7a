-- All stores of a run, as rows.
use Rattle.std.specs.Prelude.{◌≡◌, ℕ, ◌<◌, List, Some, length, slice_get}
use Rattle.mx_reads.specs.Deeds.{CellUse, Deed, Deeds}
use Rattle.mx_stores.specs.Ends.{AreEnds}
use Rattle.mx_stores.specs.Groups.{AreCells, AreFirsts, AreGroups}
use Rattle.mx_stores.specs.Parts.{deeds_of}
use Rattle.mx_stores.specs.Tables.{AreTables, number_of}
use Rattle.mx_stores.specs.declared.groups.Groups.{Groups}
use Rattle.mx_stores.specs.declared.rows.Rows.{Rows}
use Rattle.mx_stores.specs.declared.stores.Store.{Store}
use Rattle.mx_stores.specs.declared.stores.Table.{Table}

-- the stores of the processes that have a table
pub record AreRows (done : Deeds) (rows : Rows) : Type 0 where
  pub tables : AreTables done rows.tables.items
  pub ends : AreEnds done rows.tables.items rows.ends.items
  pub groups : AreGroups rows.tables.items rows.groups.items
  pub cells : AreCells rows.tables.items rows.cells.numbers.items
  pub firsts : AreFirsts done (length rows.tables.items) rows.cells.numbers.items rows.firsts.items

-- one table for each part
pub record ArePartRows (parts : List (List Deed)) (rows : Rows) : Type 0 where
  pub long : length rows.tables.items ≡ length parts
  pub each : AreRows (deeds_of parts) rows

-- the store in the cell with this place stands here
pub record IsStoreAt (stores : List Store) (cell : CellUse) (place at : ℕ) : Type 0 where
  pub store : Store
  pub is : slice_get stores at ≡ Some store
  pub there : store.place ≡ place
  pub same : store.cell ≡ cell
  pub small : at < 18446744073709551615

-- the store of this process in the cell with this place stands here in its table, in this group
pub record IsInGroup (tables : List Table) (groups : List Groups) (storer : ℕ) (cell : CellUse) (place group at : ℕ) : Type 0 where
  pub table : Table
  pub own : Groups
  pub table_is : slice_get tables storer ≡ Some table
  pub own_is : slice_get groups storer ≡ Some own
  pub group_is : slice_get own.cells.numbers.items group ≡ Some (number_of cell)
  pub store : IsStoreAt table.stores.items cell place at
