-- The point rule: no point of a process precedes anything that the process had seen, and none passes what it did next.
use Rattle.std.specs.Prelude.{◌≡◌, ℕ, ◌<◌, ◌≤◌, List, Some, slice_get}
use Rattle.mx_reads.specs.Deeds.{CellUse, Deed, Enters, Loads, Misses, point_of}

-- after a place of a process's deeds this is the number of its next own entry
pub record IsNextEntry (done : List Deed) (place number : ℕ) : Type 0 where
  pub at : ℕ
  pub after : place < at
  pub entry : slice_get done at ≡ Some (Enters number)
  pub first : (between other : ℕ) → place < between → between < at → slice_get done between ≡ Some (Enters other) → ⊥

-- the deed at this place of a process's deeds has the point q, where the journal has `setup` entries of the setup and
-- `entries` in all
pub record IsPoint (setup entries : ℕ) (done : List Deed) (place q : ℕ) : Type 0 where
  -- it is not before the setup
  pub after_setup : setup ≤ q
  -- nor before an own entry made before it
  pub after_entries : (before number : ℕ) → before < place → slice_get done before ≡ Some (Enters number) → number ≤ q
  -- nor before an entry by which the process missed
  pub after_misses : (before segno by : ℕ) → before < place → slice_get done before ≡ Some (Misses segno by) → by ≤ q
  -- nor before the stamp of a word read before it
  pub after_stamps : (before : ℕ) (cell : CellUse) (value writer stamp point : ℕ) → before < place
      → slice_get done before ≡ Some (Loads cell value writer stamp point) → stamp ≤ q
  -- points never fall
  pub rising : (before : ℕ) (deed : Deed) (earlier : ℕ) → before < place → slice_get done before ≡ Some deed
      → point_of deed ≡ Some earlier → earlier ≤ q
  -- it is a point of this journal
  pub within : q ≤ entries
  -- and below the next own entry
  pub before_next : (number : ℕ) → IsNextEntry done place number → q < number

-- each point of a process keeps the rule
abbrev pub ArePoints : ℕ → ℕ → List Deed → Type 0
ArePoints setup entries done = (place : ℕ) (deed : Deed) (q : ℕ) → slice_get done place ≡ Some deed
    → point_of deed ≡ Some q → IsPoint setup entries done place q
