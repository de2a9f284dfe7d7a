-- A legal run of a session can be spelled, and so can each reply of the plain supervisor to entries that can.
use Rattle.std.specs.Prelude.{◌≡◌, ℕ, true, List}
use Rattle.std.specs.List.{list_all}
use Rattle.mx_request.specs.ReplyTexts.{fits_reply}
use Rattle.mx_request.specs.RequestTexts.{fits_request}
use Rattle.mx_request.specs.declared.requests.Request.{Request}
use Rattle.mx_script.specs.Sessions.{Outline, IsSession}
use Rattle.mx_script.specs.SessionTexts.{fits, rows_of}
use Rattle.mx_state.specs.History.{replay}
use Rattle.mx_state.specs.Requests.{plain}
use Rattle.mx_state.specs.declared.journal.Entry as journaled
use Rattle.mx_transcript.specs.Legal.{IsLegal}
use Rattle.mx_transcript.specs.Opened.{opening_of}
use Rattle.mx_transcript.specs.Transcripts.{Step}
use Rattle.mx_spelling.specs.Spelling.{IsSpellable, fits_entry}

-- where the session's own lines can be written
abbrev pub SpellableLaw : Type 0
SpellableLaw = (x : Outline) (journal : List journaled.Entry) (transcripts : List (List Step)) → IsSession x
    → list_all fits (rows_of x) ≡ true → IsLegal x journal transcripts → IsSpellable journal transcripts

-- whatever the plain supervisor answers to a request after entries that can be spelled
abbrev pub ReplyLaw : Type 0
ReplyLaw = (x : Outline) (journal : List journaled.Entry) (p ring : ℕ) (request : Request) → IsSession x
    → list_all fits (rows_of x) ≡ true → list_all fits_entry journal ≡ true → fits_request request ≡ true
    → fits_reply (plain (replay (opening_of x) journal) p ring request).reply ≡ true
