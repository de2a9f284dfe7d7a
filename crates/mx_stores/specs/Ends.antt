-- From when on the stores in the tables are superseded.
use Rattle.std.specs.Prelude.{◌≡◌, ℕ, List, Option, Some, length, slice_get}
use Rattle.mx_reads.specs.Deeds.{Deeds}
use Rattle.mx_stores.specs.Until.{until}
use Rattle.mx_stores.specs.declared.ends.Ends.{Ends}
use Rattle.mx_stores.specs.declared.stores.Store.{Store}
use Rattle.mx_stores.specs.declared.stores.Table.{Table}

-- beside each store of a process stands from when on it is superseded, by its own process or one below the count
abbrev pub AreEndsOf : Deeds → ℕ → ℕ → List Store → List (Option ℕ) → Type 0
AreEndsOf done count storer stores ends = (here : ℕ) (s : Store) → slice_get stores here ≡ Some s
    → slice_get ends here ≡ Some (until done count storer s.place s.cell)

-- beside each table of the processes 0, 1, .. stand those of its stores, by its own process or one below the count
pub record AreEndsTo (done : Deeds) (count : ℕ) (tables : List Table) (ends : List Ends) : Type 0 where
  pub long : length ends ≡ length tables
  pub each : (u : ℕ) (table : Table) (own : Ends) → slice_get tables u ≡ Some table → slice_get ends u ≡ Some own
      → AreEndsOf done count u table.stores.items own.of.items

-- or by any of these processes
abbrev pub AreEnds : Deeds → List Table → List Ends → Type 0
AreEnds done tables ends = AreEndsTo done (length tables) tables ends
