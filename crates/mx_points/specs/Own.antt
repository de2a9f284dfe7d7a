-- Helpers: the entries of a process from a place of the journal on.
use Rattle.std.specs.Prelude.{◌≡◌, ℕ, suc, List, Option, Some, None, ◌∷◌, ◌++◌, drop}
use Rattle.mx_state.specs.declared.journal.Entry as journaled
use Rattle.mx_transcript.specs.Transcripts.{entries_named, numbers_from}
use Rattle.mx_transcript.specs.declared.transcripts.Event2.{Event2}

-- the numbers of the process's entries from this place on, counted from 0
abbrev pub own_from : ℕ → List journaled.Entry → ℕ → List ℕ
own_from p journal place = numbers_from (suc place) p (drop place journal)

-- the first of them has this number, which is the place after it
pub record IsNextOwn (p : ℕ) (journal : List journaled.Entry) (from number : ℕ) : Type 0 where
  pub own : own_from p journal from ≡ number ∷ own_from p journal number

-- what the events name are the first of them, and the rest begin from this place on; none where they are not
pub record HasPassed (p : ℕ) (journal : List journaled.Entry) (from : ℕ) (events : List Event2) (next : ℕ) : Type 0 where
  pub own : own_from p journal from ≡ entries_named events ++ own_from p journal next

abbrev pub IsPassage : ℕ → List journaled.Entry → ℕ → List Event2 → Option ℕ → Type 0
IsPassage p journal from events None = (later : List ℕ) → own_from p journal from ≡ entries_named events ++ later → ⊥
IsPassage p journal from events (Some next) = HasPassed p journal from events next
