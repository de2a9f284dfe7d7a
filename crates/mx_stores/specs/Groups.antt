-- The stores of the tables by groups of one cell, and the cells that were stored in.
use Rattle.std.specs.Prelude.{◌≡◌, ℕ, ◌*◌, ◌<◌, List, Option, Some, length, slice_get}
use Rattle.mx_reads.specs.Deeds.{CellUse, Deeds}
use Rattle.mx_stores.specs.Cells.{AreRising, IsPresent}
use Rattle.mx_stores.specs.Since.{first}
use Rattle.mx_stores.specs.Tables.{IsFrom, number_of}
use Rattle.mx_stores.specs.declared.groups.Groups.{Groups}
use Rattle.mx_stores.specs.declared.stores.Store.{Store}
use Rattle.mx_stores.specs.declared.stores.Table.{Table}

-- the cells that the process stored in, in order, and where in its table the stores in each begin
pub record IsGroups (stores : List Store) (groups : Groups) : Type 0 where
  pub rising : AreRising groups.cells.numbers.items
  pub long : length groups.begins.items ≡ length groups.cells.numbers.items
  pub begin : (k number at : ℕ) → slice_get groups.cells.numbers.items k ≡ Some number
      → slice_get groups.begins.items k ≡ Some at → IsFrom stores (number * 18446744073709551616) at
  pub whole : (j : ℕ) (s : Store) → slice_get stores j ≡ Some s → IsPresent groups.cells.numbers.items (number_of s.cell)

-- beside each table stand those of its stores
pub record AreGroups (tables : List Table) (groups : List Groups) : Type 0 where
  pub long : length groups ≡ length tables
  pub each : (u : ℕ) (table : Table) (own : Groups) → slice_get tables u ≡ Some table → slice_get groups u ≡ Some own
      → IsGroups table.stores.items own

-- the cells that any process stored in, in order
pub record AreCells (tables : List Table) (numbers : List ℕ) : Type 0 where
  pub rising : AreRising numbers
  pub whole : (u : ℕ) (table : Table) → slice_get tables u ≡ Some table → (j : ℕ) (s : Store)
      → slice_get table.stores.items j ≡ Some s → IsPresent numbers (number_of s.cell)

-- beside each cell stands from when on a store in it is known, of the processes below the count
abbrev pub AreFirsts : Deeds → ℕ → List ℕ → List (Option ℕ) → Type 0
AreFirsts done count numbers firsts = (k : ℕ) (cell : CellUse) → cell.since < 4294967296
    → slice_get numbers k ≡ Some (number_of cell) → slice_get firsts k ≡ Some (first done count cell)
