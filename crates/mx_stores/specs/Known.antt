-- Stores known by entries, as in a run.
use Rattle.std.specs.Prelude.{◌≡◌, ℕ, ◌<◌, ◌≤◌, Some, slice_get}
use Rattle.mx_reads.specs.Deeds.{CellUse, Deeds, Enters}
use Rattle.mx_reads.specs.Sightings.{HasStored}

-- a deed is known at a point where its process has an entry after it, numbered at most that point
pub record IsKnown (done : Deeds) (storer place q : ℕ) : Type 0 where
  pub later : ℕ
  pub number : ℕ
  pub after : place < later
  pub entry : slice_get (done storer) later ≡ Some (Enters number)
  pub within : number ≤ q

-- a store in the cell, of whomever, is known at a point
pub record HasKnownStore (done : Deeds) (cell : CellUse) (q : ℕ) : Type 0 where
  pub storer : ℕ
  pub place : ℕ
  pub value : ℕ
  pub point : ℕ
  pub stored : HasStored done storer place cell value point
  pub known : IsKnown done storer place q
