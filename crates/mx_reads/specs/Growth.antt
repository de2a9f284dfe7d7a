-- How what was done and what is known grow together, from one step to the next.
use Rattle.std.specs.Prelude.{◌≡◌, ◌≢◌, ◌⊎◌, ℕ, ◌+◌, ◌≤◌, length, Some, slice_get}
use Rattle.mx_reads.specs.Deeds.{Deed, Deeds, Enters, Stores, Loads, Refers, Misses}
use Rattle.mx_reads.specs.ReadRule.{Fronts}

-- Process p did at most one deed more, of this kind, and nobody else did anything. Up to the bound the same is known.
pub record Extends (bound : ℕ) (old : Deeds) (front : Fronts) (new : Deeds) (front' : Fronts) (p : ℕ)
    (Fresh : Deed → Type 0) : Type 0 where
  pub kept : (u i : ℕ) (d : Deed) → slice_get (old u) i ≡ Some d → slice_get (new u) i ≡ Some d
  pub found : (u i : ℕ) (d : Deed) → slice_get (new u) i ≡ Some d
      → (slice_get (old u) i ≡ Some d) ⊎ ((u ≡ p) × (i ≡ length (old p)) × Fresh d)
  pub same : (u q : ℕ) → q ≤ bound → front' u q ≡ front u q
  pub longer : (u : ℕ) → length (old u) ≤ length (new u)
  pub length_others : (u : ℕ) → u ≢ p → length (new u) ≡ length (old u)
  pub length_own : length (new p) ≤ length (old p) + 1

-- no point exceeds the bound
abbrev pub IsWithin : ℕ → Deed → Type 0
IsWithin bound (Enters number) = Unit {0}
IsWithin bound (Stores cell value point) = point ≤ bound
IsWithin bound (Loads cell value writer stamp point) = point ≤ bound
IsWithin bound (Refers point) = point ≤ bound
IsWithin bound (Misses segno by) = Unit {0}

abbrev pub AreWithin : ℕ → Deeds → Type 0
AreWithin bound done = (u i : ℕ) (d : Deed) → slice_get (done u) i ≡ Some d → IsWithin bound d

-- neither a store nor a load
abbrev pub IsQuiet : Deed → Type 0
IsQuiet (Enters number) = Unit {0}
IsQuiet (Stores cell value point) = ⊥
IsQuiet (Loads cell value writer stamp point) = ⊥
IsQuiet (Refers point) = Unit {0}
IsQuiet (Misses segno by) = Unit {0}

pub record IsQuietWithin (bound : ℕ) (d : Deed) : Type 0 where
  pub quiet : IsQuiet d
  pub within : IsWithin bound d
