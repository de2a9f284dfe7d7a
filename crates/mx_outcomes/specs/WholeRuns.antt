-- A run without auditors: nobody logs a process out, so each part has all lines of its script.
use Rattle.std.specs.Prelude.{ℕ, ◌<◌, List, length}
use Rattle.mx_proc.specs.Auditors.{HasLines}
use Rattle.mx_script.specs.Sessions.{Outline}
use Rattle.mx_state.specs.declared.journal.Entry as journaled
use Rattle.mx_transcript.specs.Runs.{IsRunOf}
use Rattle.mx_transcript.specs.Scripts.{lines_of}
use Rattle.mx_transcript.specs.Transcripts.{Step, part}

-- it is a legal run of the session, and no part is cut
pub record IsWholeRun (session : Outline) (journal : List journaled.Entry) (transcripts : List (List Step)) : Type 0 where
  pub run : IsRunOf session journal transcripts
  pub whole : (p : ℕ) → p < length transcripts → HasLines (part transcripts p) (lines_of session p)
