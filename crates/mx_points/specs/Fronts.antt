-- The rules of one process's part, said of its first deeds and of its first lines.
use Rattle.std.specs.Prelude.{◌≡◌, ◌↔◌, ℕ, suc, ◌<◌, ◌≤◌, Bool, true, List, Option, Some, None, ◌++◌, take, length, slice_get}
use Rattle.mx_script.specs.Sessions.{Outline}
use Rattle.mx_state.specs.declared.journal.Entry as journaled
use Rattle.mx_reads.specs.Deeds.{Deed, Misses, point_of}
use Rattle.mx_transcript.specs.FullJournal.{HasNoneAfterFull}
use Rattle.mx_transcript.specs.Misses.{IsChanged, IsRightMiss}
use Rattle.mx_transcript.specs.Points.{IsPoint}
use Rattle.mx_transcript.specs.Transcripts.{Step, entries_named, events_of, numbers_of}
use Rattle.mx_transcript.specs.declared.transcripts.Result2.TheVariants.{HistoryFull}
use Rattle.mx_points.specs.declared.naming.Naming.{Naming}
use Rattle.mx_points.specs.declared.naming.Naming.TheVariants.{Whole, Short, Misnamed}

-- what is said of the first n holds, and does not hold of one more
pub record IsBadAt (holds : ℕ → Type 0) (count n : ℕ) : Type 0 where
  pub within : n < count
  pub good : holds n
  pub bad : holds (suc n) → ⊥

-- the place at which what is said of the first n fails first; none where it holds of all, of which there are so many
abbrev pub IsFirstBad : (ℕ → Type 0) → ℕ → Option ℕ → Type 0
IsFirstBad holds count None = holds count
IsFirstBad holds count (Some n) = IsBadAt holds count n

-- each point below this place of a process's deeds keeps the rule
abbrev pub ArePointsTo : ℕ → ℕ → List Deed → ℕ → Type 0
ArePointsTo setup entries done n = (place : ℕ) (deed : Deed) (q : ℕ) → place < n → slice_get done place ≡ Some deed
    → point_of deed ≡ Some q → IsPoint setup entries done place q

-- each miss below this place of a process's deeds keeps the rule
abbrev pub AreRightMissesTo : List journaled.Entry → (ℕ → ℕ → Type 0) → ℕ → List Deed → ℕ → Type 0
AreRightMissesTo journal is_changed p done n = (place segno by : ℕ) → place < n
    → slice_get done place ≡ Some (Misses segno by) → IsRightMiss journal is_changed p done place segno by

-- beside each miss stands whether its entry changed the pair
abbrev pub AreChanges : Outline → List journaled.Entry → ℕ → List Deed → List Bool → Type 0
AreChanges session journal p done changes = (place segno by : ℕ) → slice_get done place ≡ Some (Misses segno by)
    → (slice_get changes place ≡ Some true) ↔ IsChanged session journal p segno by

-- the entries that the first k lines name are the first of process p's in the journal, in order
pub record AreNamedTo (journal : List journaled.Entry) (p : ℕ) (steps : List Step) (k : ℕ) : Type 0 where
  pub later : List ℕ
  pub named : numbers_of p journal ≡ entries_named (events_of (take k steps)) ++ later

-- the lines name the entries of process p in the journal, in order, each once
abbrev pub HasNamedAll : List journaled.Entry → ℕ → List Step → Type 0
HasNamedAll journal p steps = entries_named (events_of steps) ≡ numbers_of p journal

-- all are named; those that are named are the first, but not all are; or the line at this place is the first that names one
-- which is not the next
abbrev pub IsNaming : List journaled.Entry → ℕ → List Step → Naming → Type 0
IsNaming journal p steps Whole = HasNamedAll journal p steps
IsNaming journal p steps Short = AreNamedTo journal p steps (length steps) × (HasNamedAll journal p steps → ⊥)
IsNaming journal p steps (Misnamed n) = IsBadAt (AreNamedTo journal p steps) (length steps) n

-- no line below this one has an entry after one that found the journal full
abbrev pub HasNoneAfterFullTo : List Step → ℕ → Type 0
HasNoneAfterFullTo steps k = HasNoneAfterFull (take k steps)

-- of the setup's first k lines those past its entries found the journal full, and no others
abbrev pub AreSetupLinesTo : ℕ → List Step → ℕ → Type 0
AreSetupLinesTo setup steps k = (place : ℕ) (step : Step) → place < k → slice_get steps place ≡ Some step
    → (setup ≤ place) ↔ (step.2 ≡ HistoryFull)

-- the event at this place among all events is one of the line at place k; past the last event there is no such line
pub record IsLineOf (steps : List Step) (place k : ℕ) : Type 0 where
  pub within : k ≤ length steps
  pub before : length (events_of (take k steps)) ≤ place
  pub in_line : k < length steps → place < length (events_of (take (suc k) steps))
