-- A run text is of one run.
use Rattle.std.specs.Prelude.{◌≡◌, List}
use Rattle.mx_spelling.specs.Spelling.{IsSpellable}
use Rattle.mx_state.specs.declared.journal.Entry as journaled
use Rattle.mx_transcript.specs.Transcripts.{Step}
use Rattle.mx_text.specs.RunText.{run_text}

-- two runs that have one text are the same, where a run text can say them
abbrev pub OneRunLaw : Type 0
OneRunLaw = (one other : List journaled.Entry) (transcripts others : List (List Step)) → IsSpellable one transcripts
    → IsSpellable other others → run_text one transcripts ≡ run_text other others → (one ≡ other) × (transcripts ≡ others)
