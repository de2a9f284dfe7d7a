-- Helpers that only private contracts cite: what is said of judged parts.
use Rattle.std.specs.Prelude.{◌≡◌, ◌↔◌, ℕ, Bool, IsTrue, List, length, MatchOption, Ok, Option, Some, Result, slice_get}
use Rattle.std.specs.declared.alloc.AllocError.{AllocError}
use Rattle.mx_points.specs.Fronts.{IsFirstBad}
use Rattle.mx_script.specs.Sessions.{Outline}
use Rattle.mx_state.specs.declared.journal.Entry as journaled
use Rattle.mx_transcript.specs.Transcripts.{Step, part}
use Rattle.mx_legal.specs.Breach.{HasNamed, IsBadLine}
use Rattle.mx_legal.specs.Fronts.{AreDoneTo, IsGoodPart}
use Rattle.mx_legal.specs.declared.judging.Judged.{Judged}

-- the first bad line of process p's part, if any, is at this place, and the part names all of its entries or not
pub record IsJudged (session : Outline) (journal : List journaled.Entry) (transcripts : List (List Step)) (p : ℕ) (place : Option ℕ)
    (is_named : Bool) : Type 0 where
  pub bad : MatchOption place (IsGoodPart session journal transcripts p) (IsBadLine session journal transcripts p)
  pub named : IsTrue is_named ↔ HasNamed journal transcripts p

-- each place of a list is that of the first line of its part that departs from the line rule, or none, where it was found
abbrev pub AreUndone : Outline → List journaled.Entry → List (List Step) → List (Result (Option ℕ) AllocError) → Type 0
AreUndone session journal transcripts all = (p : ℕ) (found : Option ℕ) → slice_get all p ≡ Some (Ok found)
    → IsFirstBad (AreDoneTo session journal p (part transcripts p)) (length (part transcripts p)) found

-- each judgement of a list that was made is right of the part of its place
abbrev pub AreJudged : Outline → List journaled.Entry → List (List Step) → List (Result Judged AllocError) → Type 0
AreJudged session journal transcripts all = (p : ℕ) (judged : Judged) → slice_get all p ≡ Some (Ok judged)
    → IsJudged session journal transcripts p judged.bad judged.is_named
