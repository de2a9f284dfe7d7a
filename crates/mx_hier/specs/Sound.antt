-- What is true of every hierarchy that the program reaches.
use Rattle.std.specs.Prelude.{◌≡◌, ◌≢◌, ℕ, ◌+◌, ◌≤◌, ◌<◌, List, Some, None}
use Rattle.mx_pages.specs.Runs.{PageMap, IsFree, IsInRun, AreApart, pages_for}
use Rattle.mx_hier.specs.declared.branches.Branch.{Branch}
use Rattle.mx_hier.specs.declared.branches.Segment.{Segment}
use Rattle.mx_hier.specs.Branches.{segment_in}
use Rattle.mx_hier.specs.Objects.{Objects, object_of, gate_of, defined_in}

-- a segment's words lie on pages that there are
pub record IsStored (segment : Segment) : Type 0 where
  pub some : 1 ≤ segment.words
  pub most : segment.words ≤ 1024
  pub pages : segment.page + pages_for segment.words ≤ 1024

abbrev pub HasPage : Segment → ℕ → Type 0
HasPage segment page = IsInRun (pages_for segment.words) segment.page page

-- No uid that is yet to be given has an object map, and no map has more gates than the longest segment has words, or
-- defines a symbol with a word beyond them.
pub record AreObjects (objects : Objects) (next : ℕ) : Type 0 where
  pub given : (uid : ℕ) → next ≤ uid → object_of objects uid ≡ None
  pub gates : (uid : ℕ) → gate_of (object_of objects uid) ≤ 1024
  pub words : (uid word : ℕ) (symbol : List ℕ) → defined_in (object_of objects uid) symbol ≡ Some word → word < 1024

-- Uids count from 1, and the last that is given is 4,294,967,294. No page of a segment is free, and none is that of
-- another.
pub record IsSound (branches : List Branch) (next : ℕ) (pages : PageMap) (objects : Objects) : Type 0 where
  pub first : 1 ≤ next
  pub last : next ≤ 4294967295
  pub stored : (uid : ℕ) (segment : Segment) → segment_in branches uid ≡ Some segment → IsStored segment
  pub taken : (uid page : ℕ) (segment : Segment) → segment_in branches uid ≡ Some segment → HasPage segment page
      → IsFree pages page → ⊥
  pub apart : (uid other : ℕ) (a b : Segment) → segment_in branches uid ≡ Some a → segment_in branches other ≡ Some b
      → uid ≢ other → AreApart (pages_for a.words) a.page (pages_for b.words) b.page
  pub maps : AreObjects objects next
