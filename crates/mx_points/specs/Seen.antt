-- Helpers: what a process has seen by its deeds, and which own entry comes next.
use Rattle.std.specs.Prelude.{◌≡◌, ℕ, ◌<◌, ◌≤◌, ◌==◌, max, Bool, true, if◌then◌else◌, List, [], ◌∷◌, Option, Some, None, slice_index_or, slice_set, take, length}
use Rattle.mx_state.specs.declared.journal.Entry as journaled
use Rattle.mx_reads.specs.Deeds.{Deed, Enters, Stores, Loads, Refers, Misses, point_of}
use Rattle.mx_stores.specs.Since.{entry_of}
use Rattle.mx_transcript.specs.Settings.{entry_at}

-- the greatest number of an entry that a process has seen by a deed
abbrev pub seen : Deed → ℕ
seen (Enters number) = number
seen (Stores cell value point) = point
seen (Loads cell value writer stamp point) = max stamp point
seen (Refers point) = point
seen (Misses segno by) = by

-- the entry by which a deed missed this segment number, 0 where it did not
abbrev pub missed : ℕ → Deed → ℕ
missed segno (Enters number) = 0
missed segno (Stores cell value point) = 0
missed segno (Loads cell value writer stamp point) = 0
missed segno (Refers point) = 0
missed segno (Misses own by) = if own == segno then by else 0

-- the greatest of the deeds' numbers and this one
abbrev pub greatest : (Deed → ℕ) → ℕ → List Deed → ℕ
greatest number least [] = least
greatest number least (deed ∷ deeds) = greatest number (max least (number deed)) deeds

abbrev pub or_later : Option ℕ → Option ℕ → Option ℕ
or_later None later = later
or_later (Some number) later = Some number

-- the number of the first entry among the deeds
abbrev pub first_entry : List Deed → Option ℕ
first_entry [] = None
first_entry (deed ∷ deeds) = or_later (entry_of deed) (first_entry deeds)

-- it is below that number, if there is one
abbrev pub IsBelow : ℕ → Option ℕ → Type 0
IsBelow number None = Unit {0}
IsBelow number (Some next) = number < next

-- a point is right where the process has seen entries up to `floor`, the journal has `entries` and the next own is `next`
pub record MayBePoint (floor entries : ℕ) (next : Option ℕ) (q : ℕ) : Type 0 where
  pub after : floor ≤ q
  pub within : q ≤ entries
  pub before : IsBelow q next

-- and so is the point of a deed, if it has one
abbrev pub HasRightPoint : ℕ → ℕ → Option ℕ → Deed → Type 0
HasRightPoint floor entries next deed = (q : ℕ) → point_of deed ≡ Some q → MayBePoint floor entries next q

-- a miss by this entry is right where the entry changed the pair, the last miss of the number was by `last` and the
-- next own entry is `next`
pub record MayMiss (journal : List journaled.Entry) (p : ℕ) (is_changed : Bool) (last : ℕ) (next : Option ℕ) (by : ℕ) : Type 0 where
  pub entry : journaled.Entry
  pub at : entry_at journal by ≡ Some entry
  pub other : entry.process ≡ p → ⊥
  pub changed : is_changed ≡ true
  pub after : last < by
  pub before : IsBelow by next

-- and so is a deed, if it is a miss, where these are the last by segment number
abbrev pub HasRightMiss : List journaled.Entry → ℕ → Bool → List ℕ → Option ℕ → Deed → Type 0
HasRightMiss journal p is_changed lasts next deed = (segno by : ℕ) → deed ≡ Misses segno by
    → MayMiss journal p is_changed (slice_index_or lasts segno 0) next by

abbrev pub lasts_after : Deed → List ℕ → List ℕ
lasts_after (Enters number) lasts = lasts
lasts_after (Stores cell value point) lasts = lasts
lasts_after (Loads cell value writer stamp point) lasts = lasts
lasts_after (Refers point) lasts = lasts
lasts_after (Misses segno by) lasts = slice_set lasts segno by

-- for each segment number the entry of the last of the first misses, 0 where there is none
pub record AreLasts (done : List Deed) (place : ℕ) (lasts : List ℕ) : Type 0 where
  pub long : length lasts ≡ 65536
  pub each : (segno : ℕ) → segno < 65536 → slice_index_or lasts segno 0 ≡ greatest (missed segno) 0 (take place done)
