-- The read rule in a run: stores are known by entries.
use Rattle.std.specs.Prelude.{◌≡◌, ℕ, ◌<◌, ◌≤◌, Some, slice_get}
use Rattle.mx_reads.specs.Deeds.{Deeds, Enters}

-- a store is known at a point where its process has an entry after it, numbered at most that point
pub record IsKnown (done : Deeds) (storer place q : ℕ) : Type 0 where
  pub later : ℕ
  pub number : ℕ
  pub after : place < later
  pub entry : slice_get (done storer) later ≡ Some (Enters number)
  pub within : number ≤ q
