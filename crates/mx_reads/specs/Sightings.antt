-- Stores and sightings: what processes did with a cell in one of its uses. The deeds of all processes are given as a
-- function from processes.
use Rattle.std.specs.Prelude.{◌≡◌, ◌≢◌, ℕ, ◌<◌, ◌≤◌, Some, slice_get}
use Rattle.mx_reads.specs.Deeds.{CellUse, Deed, Deeds, Enters, Stores, Loads, Refers, Misses}

-- the deed at a place of a process is a store of this value in this cell at this point
abbrev pub HasStored : Deeds → ℕ → ℕ → CellUse → ℕ → ℕ → Type 0
HasStored done storer place cell value point = slice_get (done storer) place ≡ Some (Stores cell value point)

-- `source p here` is the place of the store that the read of process p at the place `here` stands for
abbrev pub Source : Type 0
Source = ℕ → ℕ → ℕ

-- The deed of process p at the place `here` is a sighting of the cell, of that store of the process `storer`: its own
-- store there, or its read of a written value there.
abbrev pub Sights : Source → ℕ → ℕ → Deed → CellUse → ℕ → ℕ → Type 0
Sights source p here (Enters number) cell storer store = ⊥
Sights source p here (Stores own value point) cell storer store = (own ≡ cell) × (storer ≡ p) × (store ≡ here)
Sights source p here (Loads own value writer stamp point) cell storer store =
    (own ≡ cell) × (writer ≢ 0) × (storer ≡ writer) × (store ≡ source p here)
Sights source p here (Refers point) cell storer store = ⊥
Sights source p here (Misses segno by) cell storer store = ⊥

pub record HasSighted (done : Deeds) (source : Source) (p here : ℕ) (cell : CellUse) (storer store : ℕ) : Type 0 where
  pub deed : Deed
  pub at : slice_get (done p) here ≡ Some deed
  pub sights : Sights source p here deed cell storer store

-- before the place `here`, process p's last sighting of the cell was of this store of the process `storer`
pub record IsLatest (done : Deeds) (source : Source) (p here : ℕ) (cell : CellUse) (storer store : ℕ) : Type 0 where
  pub earlier : ℕ
  pub before : earlier < here
  pub sighted : HasSighted done source p earlier cell storer store
  pub last : (later storer' store' : ℕ) → earlier < later → later < here → HasSighted done source p later cell storer' store' → ⊥

-- Where the latest sighting of the cell was of this process's store, one at or after the one sighted will do; otherwise
-- one after all of its stores that were sighted there.
pub record IsBeyond (done : Deeds) (source : Source) (p here : ℕ) (cell : CellUse) (storer place : ℕ) : Type 0 where
  pub again : (store : ℕ) → IsLatest done source p here cell storer store → store ≤ place
  pub onward : ((store : ℕ) → IsLatest done source p here cell storer store → ⊥)
      → (earlier store : ℕ) → earlier < here → HasSighted done source p earlier cell storer store → store < place
