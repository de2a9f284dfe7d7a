-- What a process has sighted of a cell before a place of its deeds, and from where on a store of another is beyond that.
use Rattle.std.specs.Prelude.{ℕ, zero, suc, ◌+◌, ◌==◌, ◌&&◌, not, max, if◌then◌else◌, Option, Some, None, option_and_then, slice_get}
use Rattle.mx_reads.specs.Deeds.{CellUse, Deed, Deeds, Enters, Stores, Loads, Refers, Misses}
use Rattle.mx_reads.specs.Sightings.{Source}
use Rattle.mx_stores.specs.Since.{is_same}

-- a store that was sighted: whose, and at which place
pub record Sighted : Type 0 where
  pub storer : ℕ
  pub store : ℕ

-- what a deed of process p at the place `here` sights of the cell, where its read stands for the store at `chosen`
abbrev pub sighted_in : CellUse → ℕ → ℕ → ℕ → Deed → Option Sighted
sighted_in cell p here chosen (Enters number) = None
sighted_in cell p here chosen (Stores own value point) =
    if is_same own cell then Some (record { storer = p; store = here }) else None
sighted_in cell p here chosen (Loads own value writer stamp point) =
    if is_same own cell && not (writer == 0) then Some (record { storer = writer; store = chosen }) else None
sighted_in cell p here chosen (Refers point) = None
sighted_in cell p here chosen (Misses segno by) = None

abbrev pub sighted_at : Deeds → Source → ℕ → CellUse → ℕ → Option Sighted
sighted_at done source p cell here =
    option_and_then (λ deed. sighted_in cell p here (source p here) deed) (slice_get (done p) here)

abbrev pub or_earlier : Option Sighted → Option Sighted → Option Sighted
or_earlier None earlier = earlier
or_earlier (Some sighted) earlier = Some sighted

-- process p's last sighting of the cell before the place
abbrev pub latest : Deeds → Source → ℕ → CellUse → ℕ → Option Sighted
latest done source p cell zero = None
latest done source p cell (suc here) = or_earlier (sighted_at done source p cell here) (latest done source p cell here)

-- the place after the one sighted, where it is a store of this process
abbrev pub after_store : ℕ → Option Sighted → ℕ
after_store storer None = 0
after_store storer (Some sighted) = if sighted.storer == storer then sighted.store + 1 else 0

-- the place after all stores of `storer` in the cell that process p sighted before the place
abbrev pub after_all : Deeds → Source → ℕ → CellUse → ℕ → ℕ → ℕ
after_all done source p cell storer zero = 0
after_all done source p cell storer (suc here) =
    max (after_store storer (sighted_at done source p cell here)) (after_all done source p cell storer here)

abbrev pub floor_after : ℕ → Option Sighted → ℕ → ℕ
floor_after storer None after = after
floor_after storer (Some sighted) after = if sighted.storer == storer then sighted.store else after

-- from this place on a store of `storer` is beyond what process p sighted of the cell before the place `here`
abbrev pub floor : Deeds → Source → ℕ → CellUse → ℕ → ℕ → ℕ
floor done source p cell storer here =
    floor_after storer (latest done source p cell here) (after_all done source p cell storer here)
