-- What a process has sighted, by the latest sighting and the places after those sighted.
use Rattle.std.specs.Prelude.{◌↔◌, ℕ, ◌≤◌}
use Rattle.mx_reads.specs.Deeds.{CellUse, Deeds}
use Rattle.mx_reads.specs.Sightings.{Source, IsBeyond}
use Rattle.mx_stores.specs.Sighted.{floor}

abbrev pub BeyondLaw : Type 0
BeyondLaw = (done : Deeds) (source : Source) (p here : ℕ) (cell : CellUse) (storer place : ℕ)
    → IsBeyond done source p here cell storer place ↔ (floor done source p cell storer here ≤ place)
