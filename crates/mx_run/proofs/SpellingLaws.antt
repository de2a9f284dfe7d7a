-- A legal run that comes of a session whose lines can be written can be spelled.
use Rattle.std.proofs.Common.{◌≡◌, true, List, Result, Ok, Err, IfOk}
use Rattle.std.specs.List.{list_all}
use Rattle.mx_script.specs.SessionTexts.{fits, rows_of}
use Rattle.mx_script.specs.Sessions.{IsSession, Outline}
use Rattle.mx_spelling.proofs.JournalBounds.{spellable_law}
use Rattle.mx_spelling.specs.Spelling.{IsSpellable}
use Rattle.mx_state.specs.declared.journal.Entry.{Entry}
use Rattle.mx_transcript.specs.Legal.{IsLegal}
use Rattle.mx_transcript.specs.Transcripts.{Step}

pub spelled : {E : Type 0} (x : Outline) (r : Result (List Entry × List (List Step)) E) → IsSession x → list_all fits (rows_of x) ≡ true
    → IfOk r (λ ran. IsLegal x ran.0 ran.1) → IfOk r (λ ran. IsSpellable ran.0 ran.1)
spelled x (Ok ran) session text legal = spellable_law x ran.0 ran.1 session text legal
spelled x (Err why) session text legal = tt
