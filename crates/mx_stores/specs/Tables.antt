-- The stores of a process as a table in order of cells and places.
use Rattle.std.specs.Prelude.{if◌then◌else◌, ◌≡◌, ℕ, zero, suc, ◌+◌, ◌*◌, ◌<◌, ◌≤◌, List, Option, Some, None, length, slice_get}
use Rattle.std.specs.List.{Contains}
use Rattle.std.specs.List.Sorted.{IsNonDecreasingBy}
use Rattle.mx_reads.specs.Deeds.{CellUse, Deed, Deeds, Enters, Stores, Loads, Refers, Misses}
use Rattle.mx_stores.specs.Parts.{deeds_of}
use Rattle.mx_stores.specs.Since.{is_same, since}
use Rattle.mx_stores.specs.declared.stores.Store.{Store}
use Rattle.mx_stores.specs.declared.stores.Table.{Table}

-- the number of a cell in a use
abbrev pub number_of : CellUse → ℕ
number_of cell = cell.cell * 4294967296 + cell.since

-- cells in order, and within each the places
abbrev pub order_of : CellUse → ℕ → ℕ
order_of cell place = number_of cell * 18446744073709551616 + place

-- cells in order, and within each the points
abbrev pub level_of : CellUse → ℕ → ℕ
level_of cell point = number_of cell * 4294967296 + point

-- what is written down of a store of a process
pub record IsStoreOf (deeds : List Deed) (s : Store) : Type 0 where
  pub stored : slice_get deeds s.place ≡ Some (Stores s.cell s.value s.point)
  pub known : s.since ≡ since deeds s.place
  pub ordered : s.order ≡ order_of s.cell s.place
  pub levelled : s.level ≡ level_of s.cell s.point
  pub fits_use : s.cell.since < 4294967296
  pub fits_point : s.point < 4294967296
  pub fits_place : s.place < 18446744073709551616

-- what is written down of a deed that is a store
pub record IsStoreHere (deed : Deed) (place : ℕ) (since : Option ℕ) (s : Store) : Type 0 where
  pub stored : deed ≡ Stores s.cell s.value s.point
  pub at : s.place ≡ place
  pub known : s.since ≡ since
  pub ordered : s.order ≡ order_of s.cell s.place
  pub levelled : s.level ≡ level_of s.cell s.point
  pub fits_use : s.cell.since < 4294967296
  pub fits_point : s.point < 4294967296
  pub fits_place : s.place < 18446744073709551616

abbrev pub IsNoStore : Deed → Type 0
IsNoStore (Enters number) = Unit {0}
IsNoStore (Stores cell value point) = ⊥
IsNoStore (Loads cell value writer stamp point) = Unit {0}
IsNoStore (Refers point) = Unit {0}
IsNoStore (Misses segno by) = Unit {0}

-- the store at a place is written down
pub record HasStore (stores : List Store) (place : ℕ) : Type 0 where
  pub store : Store
  pub is_in : Contains stores store
  pub there : store.place ≡ place

-- no two stores have one place
abbrev pub AreApart : List Store → Type 0
AreApart stores = (j k : ℕ) (s t : Store) → slice_get stores j ≡ Some s → slice_get stores k ≡ Some t
    → s.place ≡ t.place → j ≡ k

-- all stores among the deeds from a place on, each once, and nothing else
pub record AreStores (deeds : List Deed) (from : ℕ) (stores : List Store) : Type 0 where
  pub after : (s : Store) → Contains stores s → from ≤ s.place
  pub apart : AreApart stores
  pub each : (s : Store) → Contains stores s → IsStoreOf deeds s
  pub whole : (place : ℕ) (cell : CellUse) (value point : ℕ) → from ≤ place
      → slice_get deeds place ≡ Some (Stores cell value point) → HasStore stores place

-- a store up to this one has this level
pub record HasLevel (stores : List Store) (k level : ℕ) : Type 0 where
  pub at : ℕ
  pub store : Store
  pub up_to : at ≤ k
  pub is : slice_get stores at ≡ Some store
  pub same : store.level ≡ level

-- each number, of the first so many, is the greatest level up to the store beside it
pub record AreReaches (stores : List Store) (count : ℕ) (reaches : List ℕ) : Type 0 where
  pub long : length reaches ≡ count
  pub above : (j k : ℕ) (s : Store) (reach : ℕ) → j ≤ k → slice_get stores j ≡ Some s → slice_get reaches k ≡ Some reach
      → s.level ≤ reach
  pub one : (k reach : ℕ) → slice_get reaches k ≡ Some reach → HasLevel stores k reach

-- the table of a process's stores
pub record IsTable (deeds : List Deed) (table : Table) : Type 0 where
  pub stores : AreStores deeds 0 table.stores.items
  pub sorted : IsNonDecreasingBy (λ s. s.order) table.stores.items
  pub reach : AreReaches table.stores.items (length table.stores.items) table.reaches.items

-- the numbers before a place are below this level
abbrev pub AreLower : List ℕ → ℕ → ℕ → Type 0
AreLower reaches level k = (j reach : ℕ) → j < k → slice_get reaches j ≡ Some reach → reach < level

-- the first number that is at least this level
pub record IsReachFrom (reaches : List ℕ) (level k : ℕ) : Type 0 where
  pub below : AreLower reaches level k
  pub from : (reach : ℕ) → slice_get reaches k ≡ Some reach → level ≤ reach

-- the first store that has at least this level
pub record IsLevelFrom (stores : List Store) (level k : ℕ) : Type 0 where
  pub below : (j : ℕ) (s : Store) → j < k → slice_get stores j ≡ Some s → s.level < level
  pub from : (s : Store) → slice_get stores k ≡ Some s → level ≤ s.level

-- stores stand from here on where their number in the order is at least this one
pub record IsFrom (stores : List Store) (order k : ℕ) : Type 0 where
  pub below : (j : ℕ) (s : Store) → j < k → slice_get stores j ≡ Some s → s.order < order
  pub from : (j : ℕ) (s : Store) → k ≤ j → slice_get stores j ≡ Some s → order ≤ s.order

-- from when on this store is known, if it is one in the cell
abbrev pub since_of : CellUse → Option Store → Option ℕ
since_of cell None = None
since_of cell (Some s) = if is_same s.cell cell then s.since else None

-- the tables of the processes 0, 1, ..
abbrev pub AreTables : Deeds → List Table → Type 0
AreTables done tables = (u : ℕ) (table : Table) → slice_get tables u ≡ Some table → IsTable (done u) table

-- one for each part
pub record ArePartTables (parts : List (List Deed)) (tables : List Table) : Type 0 where
  pub long : length tables ≡ length parts
  pub each : AreTables (deeds_of parts) tables

-- the store before a place in the table
abbrev pub before : List Store → ℕ → Option Store
before stores zero = None
before stores (suc here) = slice_get stores here
