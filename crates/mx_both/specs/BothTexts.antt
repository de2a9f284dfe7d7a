-- A session text followed at once by a run text: which bytes are both.
use Rattle.std.specs.Prelude.{◌≡◌, ℕ, List, ◌++◌}
use Rattle.mx_reader.specs.RunTexts.{IsRunText}
use Rattle.mx_script.specs.Sessions.{Outline}
use Rattle.mx_script.specs.SessionTexts.{IsText}
use Rattle.mx_state.specs.declared.journal.Entry as journaled
use Rattle.mx_transcript.specs.Transcripts.{Step}

-- the bytes are the text of this session, and then that of this journal and these transcripts
pub record IsBothText (spelled : List ℕ) (session : Outline) (journal : List journaled.Entry) (transcripts : List (List Step)) : Type 0 where
  pub first : List ℕ
  pub second : List ℕ
  pub parts : spelled ≡ first ++ second
  pub of_session : IsText first session
  pub of_run : IsRunText second journal transcripts

-- the bytes are the texts of some session and some run
abbrev pub IsSomeBoth : List ℕ → Type 0
IsSomeBoth spelled =
    (session : Outline) × (journal : List journaled.Entry) × (transcripts : List (List Step)) × IsBothText spelled session journal transcripts
