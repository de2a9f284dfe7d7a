-- What a legal run of a session prints is a text of its own, and stands at once behind the session's.
use Rattle.std.specs.Prelude.{ℕ, List, ◌++◌}
use Rattle.mx_both.specs.BothTexts.{IsBothText}
use Rattle.mx_script.specs.Sessions.{Outline, IsSession}
use Rattle.mx_script.specs.SessionTexts.{IsText}
use Rattle.mx_state.specs.declared.journal.Entry as journaled
use Rattle.mx_text.specs.RunText.{run_text}
use Rattle.mx_transcript.specs.Legal.{IsLegal}
use Rattle.mx_transcript.specs.Transcripts.{Step}

-- the text of a session, followed by the run text of a legal run of it, is both texts
abbrev pub RunTextLaw : Type 0
RunTextLaw = (session : Outline) (journal : List journaled.Entry) (transcripts : List (List Step)) (first : List ℕ)
    → IsText first session → IsSession session → IsLegal session journal transcripts
    → IsBothText (first ++ run_text journal transcripts) session journal transcripts
