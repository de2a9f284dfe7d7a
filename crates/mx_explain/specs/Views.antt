-- Helpers of the top call: what is told on which words.
use Rattle.std.specs.Prelude.{◌≡◌, ◌⊎◌, ℕ, List, Option, None, Some, codes}
use Rattle.mx_explain.specs.Commands.{LineName}
use Rattle.mx_explain.specs.PlainTexts.{plain_text}
use Rattle.mx_explain.specs.declared.words.View.{View}
use Rattle.mx_explain.specs.declared.words.View.TheVariants.{Lint, Run, Outcomes}
use Rattle.mx_explain.specs.declared.words.Reading.{Reading}
use Rattle.mx_explain.specs.declared.words.Reading.TheVariants.{Session, Plain}
use Rattle.mx_outcomes.specs.OutcomesTexts.{TellsAll, TellsTwo}
use Rattle.mx_io.specs.Bytes.{Appends, AppendsPart}
use Rattle.mx_script.specs.Sessions.{Outline}
use Rattle.mx_script.specs.SessionTexts.{IsText, IsSomeSession}
use Rattle.mx_explain.specs.Statuses.{IsShownRun, AreTold, AreTwoTold, IsBadText, IsBadTextCut}

-- what the lines come to, of all or of two
abbrev pub TellsOutcomes : Option (LineName × LineName) → Outline → List ℕ → Type 0
TellsOutcomes None x text = TellsAll x text
TellsOutcomes (Some two) x text = TellsTwo x two.0 two.1 text

abbrev pub GainsOutcomes : Option (LineName × LineName) → Outline → Option (List ℕ) → Option (List ℕ) → Type 0
GainsOutcomes None x sink sink' = AreTold x sink sink'
GainsOutcomes (Some two) x sink sink' = AreTwoTold x two sink sink'

-- what is shown of a session
abbrev pub ShowsOf : View → Outline → Option (List ℕ) → Option (List ℕ) → Type 0
ShowsOf Lint x sink sink' = Appends sink sink' (codes "good\n")
ShowsOf (Run form turns) x sink sink' = IsShownRun form x sink sink'
ShowsOf (Outcomes asked) x sink sink' = GainsOutcomes asked x sink sink'

pub record ShowsText (view : View) (spelled : List ℕ) (sink sink' : Option (List ℕ)) : Type 0 where
  pub session : Outline
  pub text : IsText spelled session
  pub shown : ShowsOf view session sink sink'

-- what is told of a text as a session: status 0 of a session's, and status 5 of another
abbrev pub TellsSession : View → List ℕ → Option (List ℕ) → Option (List ℕ) → ℕ → Type 0
TellsSession view spelled sink sink' status =
    ((status ≡ 0) × ShowsText view spelled sink sink') ⊎ ((status ≡ 5) × IsBadText spelled sink sink')

-- what is told of a text
abbrev pub Tells : Reading → List ℕ → Option (List ℕ) → Option (List ℕ) → ℕ → Type 0
Tells (Session view) spelled sink sink' status = TellsSession view spelled sink sink' status
Tells Plain spelled sink sink' status = (status ≡ 0) × Appends sink sink' (plain_text spelled)

-- a front of it, where the sink failed; nothing is said of a front of a run
abbrev pub CutsOff : View → Option (List ℕ) → Option (List ℕ) → Type 0
CutsOff view sink sink' = view ≡ Lint → AppendsPart sink sink' (codes "good\n")

abbrev pub TellsFrontOfSession : View → List ℕ → Option (List ℕ) → Option (List ℕ) → Type 0
TellsFrontOfSession view spelled sink sink' =
    (IsSomeSession spelled × CutsOff view sink sink') ⊎ IsBadTextCut spelled sink sink'

abbrev pub TellsFront : Reading → List ℕ → Option (List ℕ) → Option (List ℕ) → Type 0
TellsFront (Session view) spelled sink sink' = TellsFrontOfSession view spelled sink sink'
TellsFront Plain spelled sink sink' = AppendsPart sink sink' (plain_text spelled)
