-- What the rules make of the setup in a legal run: its lines within the limit enter the first entries of the journal,
-- in order.
use Rattle.std.specs.Prelude.{◌≡◌, ℕ, ◌+◌, ◌<◌, List, [], ◌∷◌, Some, slice_get}
use Rattle.mx_state.specs.declared.journal.Entry as journaled
use Rattle.mx_script.specs.Sessions.{Outline}
use Rattle.mx_transcript.specs.declared.transcripts.Event2.TheVariants.{Entry}
use Rattle.mx_transcript.specs.Legal.{IsLegal, setup_entries}
use Rattle.mx_transcript.specs.Transcripts.{Step, part}

abbrev pub SetupLinesLaw : Type 0
SetupLinesLaw = (session : Outline) (journal : List journaled.Entry) (transcripts : List (List Step))
    → IsLegal session journal transcripts
    → (place : ℕ) (step : Step) → place < setup_entries session → slice_get (part transcripts 0) place ≡ Some step
    → step.1 ≡ Entry (place + 1) ∷ []
