-- What follows from the definitions alone.
use Rattle.std.specs.Prelude.{◌≡◌, ℕ, List, Option, Some}
use Rattle.mx_check.specs.Judgements.{IsDueStatus, IsJudgement, judgement_status}
use Rattle.mx_check.specs.declared.judgements.Judgement.{Judgement}

-- a source that told its bytes has one judgement at most
abbrev pub OneJudgementLaw : Type 0
OneJudgementLaw = (spelled : List ℕ) (source' left : Option (List ℕ)) (one other : Judgement)
    → IsJudgement (Some spelled) source' one → IsJudgement (Some spelled) left other → one ≡ other

-- the judgement on a source that told its bytes has the status that these ask for
abbrev pub DueStatusLaw : Type 0
DueStatusLaw = (spelled : List ℕ) (source' : Option (List ℕ)) (judgement : Judgement)
    → IsJudgement (Some spelled) source' judgement → IsDueStatus spelled (judgement_status judgement)
