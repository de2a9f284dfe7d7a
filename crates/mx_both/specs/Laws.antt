-- What follows from the definitions alone.
use Rattle.std.specs.Prelude.{◌≡◌, ℕ, true, List, ◌++◌, codes}
use Rattle.std.specs.List.{list_all}
use Rattle.mx_both.specs.BothTexts.{IsBothText, IsSomeBoth}
use Rattle.mx_both.specs.Ends.{is_other}
use Rattle.mx_reader.specs.FirstBadLine.{IsFirstBad}
use Rattle.mx_script.specs.Sessions.{Outline}
use Rattle.mx_script.specs.SessionTexts.{lines_text}
use Rattle.mx_state.specs.declared.journal.Entry as journaled
use Rattle.mx_transcript.specs.Transcripts.{Step}

-- the rest is what follows the bytes' first line `end`
pub record IsBehindEnd (spelled rest : List ℕ) : Type 0 where
  pub lines : List (List ℕ)
  pub others : list_all is_other lines ≡ true
  pub parts : spelled ≡ lines_text lines ++ (codes "end\n" ++ rest)

-- the run text follows the first line `end`
abbrev pub BehindEndLaw : Type 0
BehindEndLaw = (spelled : List ℕ) (session : Outline) (journal : List journaled.Entry) (transcripts : List (List Step))
    → (is : IsBothText spelled session journal transcripts) → IsBehindEnd spelled is.second

-- bytes are the two texts of one session, one journal and one list of transcripts at most
abbrev pub OneBothLaw : Type 0
OneBothLaw = (spelled : List ℕ) (session other : Outline) (journal entries : List journaled.Entry) (transcripts parts : List (List Step))
    → IsBothText spelled session journal transcripts → IsBothText spelled other entries parts
    → (session ≡ other) × (journal ≡ entries) × (transcripts ≡ parts)

-- bytes that are no session text followed by a run text have one first bad line at most
abbrev pub OneFirstBadLaw : Type 0
OneFirstBadLaw = (spelled : List ℕ) (n m : ℕ) → IsFirstBad IsSomeBoth spelled n → IsFirstBad IsSomeBoth spelled m → n ≡ m
