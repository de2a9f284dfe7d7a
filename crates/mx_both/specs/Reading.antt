-- Helpers that only private contracts cite: what is read of either text alone.
use Rattle.std.specs.Prelude.{◌≡◌, ℕ, List, Result, Err, IfOk}
use Rattle.mx_reader.specs.FirstBadLine as run
use Rattle.mx_reader.specs.RunTexts.{IsRunText, IsSomeRun}
use Rattle.mx_reader.specs.declared.reading.ReadText.{ReadText}
use Rattle.mx_reader.specs.declared.reading.ReadText.TheVariants as read
use Rattle.mx_script.specs.FirstBadLine.{IsFirstBad}
use Rattle.mx_script.specs.Sessions.{Outline}
use Rattle.mx_script.specs.SessionTexts.{IsText}
use Rattle.mx_script.specs.declared.reading.SessionError.{SessionError}
use Rattle.mx_script.specs.declared.reading.SessionError.TheVariants as session
use Rattle.mx_state.specs.declared.journal.Entry as journaled
use Rattle.mx_transcript.specs.Transcripts.{Step}

-- the one session of this text, or its first bad line, or memory was wanting
pub record IsReadAsSession (bytes : List ℕ) (result : Result Outline SessionError) : Type 0 where
  pub found : IfOk result (λ x. IsText bytes x)
  pub only : (x : Outline) → IsText bytes x → IfOk result (λ y. y ≡ x)
  pub bad_line : (n : ℕ) → result ≡ Err (session.BadLine n) → IsFirstBad bytes n

-- the one run of this text, or its first bad line, or memory was wanting
pub record IsReadAsRun (bytes : List ℕ) (result : Result (List journaled.Entry × List (List Step)) ReadText) : Type 0 where
  pub found : IfOk result (λ run. IsRunText bytes run.0 run.1)
  pub only : (journal : List journaled.Entry) (transcripts : List (List Step)) → IsRunText bytes journal transcripts
      → IfOk result (λ run. run ≡ (journal, transcripts))
  pub bad_line : (n : ℕ) → result ≡ Err (read.BadLine n) → run.IsFirstBad IsSomeRun bytes n
