-- The descriptors of a run are such as a table may hold, where a text can say the journal.
use Rattle.std.specs.Prelude.{◌≡◌, ℕ, true, List}
use Rattle.std.specs.List.{list_all}
use Rattle.mx_script.specs.Sessions.{IsSession, Outline}
use Rattle.mx_sdw.specs.Admissible.{IsAdmissible}
use Rattle.mx_spelling.specs.Spelling.{fits_entry}
use Rattle.mx_state.specs.declared.journal.Entry as journaled
use Rattle.mx_transcript.specs.Access.{descriptor_at}

pub record HasAdmissible (session : Outline) (journal : List journaled.Entry) : Type 0 where
  pub each : (point p segno : ℕ) → IsAdmissible (descriptor_at session journal point p segno)

abbrev pub AdmissibleLaw : Type 0
AdmissibleLaw = (session : Outline) (journal : List journaled.Entry) → IsSession session
    → list_all fits_entry journal ≡ true → HasAdmissible session journal
