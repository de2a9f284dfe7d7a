-- The full journal: what follows a call that found it at its limit.
use Rattle.std.specs.Prelude.{◌≡◌, ℕ, ◌<◌, ◌≤◌, List, [], Some, slice_get}
use Rattle.mx_transcript.specs.declared.transcripts.Result2.TheVariants.{HistoryFull}
use Rattle.mx_transcript.specs.Transcripts.{Step, entries_named}

-- after a line that found the journal full no line has an entry
pub record HasNoneAfterFull (steps : List Step) : Type 0 where
  pub none : (place later : ℕ) (full step : Step) → slice_get steps place ≡ Some full → full.2 ≡ HistoryFull
      → place < later
      → slice_get steps later ≡ Some step → entries_named step.1 ≡ []

-- the lines from this place on, counted from 0, found the journal full
pub record AreFullFrom (first : ℕ) (steps : List Step) : Type 0 where
  pub each : (place : ℕ) (step : Step) → first ≤ place → slice_get steps place ≡ Some step → step.2 ≡ HistoryFull
