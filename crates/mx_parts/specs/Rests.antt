-- Helpers: a line is right where the rest of it is, and a part where the rest of its lines are.
use Rattle.std.specs.Prelude.{◌≡◌, ◌⊎◌, ℕ, ◌+◌, ◌-◌, ◌==◌, nat_lt, Bool, true, ◌&&◌, if◌then◌else◌, List, [], ◌∷◌, take, Option, Some, None, is_some}
use Rattle.mx_line.specs.AtWork.{IsGoodWork, StandsAt}
use Rattle.mx_line.specs.declared.at_work.LineAtWork.{LineAtWork}
use Rattle.mx_parts.specs.FirstBad.{AreKept}
use Rattle.mx_script.specs.declared.lines.Line.{Line}
use Rattle.mx_transcript.specs.Asking.{next}
use Rattle.mx_transcript.specs.Courses.{Course}
use Rattle.mx_transcript.specs.Denials.{denial_of}
use Rattle.mx_transcript.specs.Lines.{Goes, IsEnd, IsLine}
use Rattle.mx_transcript.specs.Parts.{last_line}
use Rattle.mx_transcript.specs.Settings.{Setting}
use Rattle.mx_transcript.specs.Transcripts.{Step}
use Rattle.mx_transcript.specs.declared.transcripts.Event2.{Event2}
use Rattle.mx_transcript.specs.declared.transcripts.Result2.{Result2}
use Rattle.mx_upcall.specs.Control.{Control}

-- a line goes on from this course with these events, and ends so
pub record IsRest (setting : Setting) (g : Control) (l : Line) (course : Course) (events : List Event2) (ends : Result2)
    (after : Control) : Type 0 where
  pub last : Course
  pub goes : Goes setting g l course events last
  pub end : IsEnd setting g (next g l last) ends after

-- The line has come to where it stands by all its events but these: it is right where they and its end are.
pub record IsRightBy (setting : Setting) (g : Control) (l : Line) (all : List Event2) (events : List Event2)
    (work : LineAtWork) : Type 0 where
  pub course : Course
  pub stands : StandsAt g l course work
  pub good : IsGoodWork g work
  pub on : (ends : Result2) (after : Control) → IsRest setting g l course events ends after → IsLine setting g l all ends after
  pub back : (ends : Result2) (after : Control) → IsLine setting g l all ends after → IsRest setting g l course events ends after

-- with these events a line is none, however it ends
pub record AreOfNoLine (setting : Setting) (g : Control) (l : Line) (events : List Event2) : Type 0 where
  pub never : (ends : Result2) (after : Control) → IsLine setting g l events ends after → ⊥

-- its events lead to where it stands; or they are those of no line
abbrev pub HasCome : Setting → Control → Line → List Event2 → Option LineAtWork → Type 0
HasCome setting g l events None = AreOfNoLine setting g l events
HasCome setting g l events (Some work) = IsRightBy setting g l events [] work

-- a line was denied
abbrev pub is_denied : Step → Bool
is_denied step = is_some (denial_of step)

-- Of the lines that are left this one may be the next, and then these others are left: it is the first of them, or, behind a
-- line that was denied, the last.
abbrev pub IsNext : Bool → List (ℕ × Line) → ℕ × Line → List (ℕ × Line) → Type 0
IsNext denied left line others =
    (left ≡ line ∷ others) ⊎ ((denied ≡ true) × (last_line left ≡ line ∷ []) × (others ≡ []))

-- Each of these steps is a line that may be next, where these lines are left and the one before was denied or not.
abbrev pub AreKeptOn : Setting → Control → Bool → List (ℕ × Line) → List Step → Type 0
AreKeptOn setting now denied left [] = Unit {0}
AreKeptOn setting now denied left (step ∷ steps) =
    (line : ℕ × Line) × (others : List (ℕ × Line)) × IsNext denied left line others × (step.0 ≡ line.0)
    × (after : Control) × IsLine setting now line.1 step.1 step.2 after
    × AreKeptOn setting after (is_denied step) others steps

-- The steps before this place are kept: as many more are where these are, from these registers and gates on.
pub record AreRightBy (setting : Setting) (start : Control) (lines : List (ℕ × Line)) (steps : List Step) (place : ℕ)
    (denied : Bool) (left : List (ℕ × Line)) (rest : List Step) (now : Control) : Type 0 where
  pub on : (n : ℕ) → AreKeptOn setting now denied left (take n rest) → AreKept setting start lines (take (n + place) steps)
  pub back : (n : ℕ) → AreKept setting start lines (take (n + place) steps) → AreKeptOn setting now denied left (take n rest)

-- at which place of a script of so many lines the line of a printed number may stand, where this place is the next: there; or,
-- behind a denied line, at the last place, where it has the last number
abbrev pub place_for : ℕ → ℕ → ℕ → Bool → ℕ → ℕ
place_for first lines next denied number =
    if denied && (nat_lt next lines && (number == first + (lines - 1))) then lines - 1 else next
