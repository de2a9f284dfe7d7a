-- What a process has sighted, as rows.
use Rattle.std.specs.Prelude.{◌≡◌, ℕ, ◌<◌, if◌then◌else◌, List, length, Option, Some, None, slice_get}
use Rattle.mx_reads.specs.Deeds.{CellUse, Deeds}
use Rattle.mx_reads.specs.Sightings.{Source}
use Rattle.mx_stores.specs.Cells.{IsAbsent}
use Rattle.mx_stores.specs.Deciding.{choices, source_of}
use Rattle.mx_stores.specs.Sighted.{Sighted, after_all, latest, sighted_at}
use Rattle.mx_stores.specs.Since.{is_same}
use Rattle.mx_stores.specs.Tables.{IsFrom, number_of, order_of}
use Rattle.mx_stores.specs.declared.groups.Groups.{Groups}
use Rattle.mx_stores.specs.declared.rows.Rows.{Rows}
use Rattle.mx_stores.specs.declared.sightings.Cursors.{Cursors}
use Rattle.mx_stores.specs.declared.sightings.Latest.{Latest}
use Rattle.mx_stores.specs.declared.sightings.Sightings.{Sightings}
use Rattle.mx_stores.specs.declared.stores.Table.{Table}

-- the store that process p sighted, by where it stands in its table, if it is another's
pub record IsLatestAt (tables : List Table) (p : ℕ) (cell : CellUse) (sighted : Sighted) (kept : Latest) : Type 0 where
  pub same : sighted.storer ≡ kept.storer
  pub from : (kept.storer ≡ p → ⊥) → (table : Table) → slice_get tables kept.storer ≡ Some table
      → IsFrom table.stores.items (order_of cell sighted.store) kept.at

abbrev pub IsLatestKept : List Table → ℕ → CellUse → Option Sighted → Option Latest → Type 0
IsLatestKept tables p cell None None = Unit {0}
IsLatestKept tables p cell None (Some kept) = ⊥
IsLatestKept tables p cell (Some sighted) None = ⊥
IsLatestKept tables p cell (Some sighted) (Some kept) = IsLatestAt tables p cell sighted kept

-- beside each group of the table of process u stands where its stores begin that come after all that process p sighted
pub record AreCursors (done : Deeds) (source : Source) (p here u : ℕ) (table : Table) (own : Groups) (c : Cursors) : Type 0 where
  pub long : length c.at.items ≡ length own.cells.numbers.items
  pub from : (k at : ℕ) (cell : CellUse) → cell.since < 4294967296
      → slice_get own.cells.numbers.items k ≡ Some (number_of cell) → slice_get c.at.items k ≡ Some at
      → IsFrom table.stores.items (order_of cell (after_all done source p cell u here)) at

-- the rows have what process p sighted before a place of its deeds
pub record AreSightings (done : Deeds) (source : Source) (tables : List Table) (groups : List Groups) (numbers : List ℕ) (p here : ℕ) (s : Sightings) : Type 0 where
  pub long : length s.latest.items ≡ length numbers
  pub latests : (k : ℕ) (cell : CellUse) (kept : Option Latest) → cell.since < 4294967296
      → slice_get numbers k ≡ Some (number_of cell) → slice_get s.latest.items k ≡ Some kept
      → IsLatestKept tables p cell (latest done source p cell here) kept
  pub absent : (cell : CellUse) → cell.since < 4294967296 → IsAbsent numbers (number_of cell)
      → latest done source p cell here ≡ None
  pub wide : length s.cursors.items ≡ length groups
  pub cursors : (u : ℕ) (table : Table) (own : Groups) (c : Cursors) → (u ≡ p → ⊥) → slice_get tables u ≡ Some table
      → slice_get groups u ≡ Some own → slice_get s.cursors.items u ≡ Some c → AreCursors done source p here u table own c

-- the deed at this place sights the cell, and no other
abbrev pub IsSightedHere : Deeds → Source → ℕ → ℕ → CellUse → Sighted → Type 0
IsSightedHere done source p here cell sighted = (other : CellUse)
    → sighted_at done source p other here ≡ (if is_same cell other then Some sighted else None)

-- All reads of process p before a place are right, and the rows have what it sighted there.
pub record IsReading (done : Deeds) (rows : Rows) (p here : ℕ) (s : Sightings) : Type 0 where
  pub chosen : List ℕ
  pub long : length chosen ≡ here
  pub is : choices done (length rows.tables.items) p here ≡ Some chosen
  pub sighted : AreSightings done (source_of chosen) rows.tables.items rows.groups.items rows.cells.numbers.items p here s
