-- A process, as contracts see it: its place in its script and what was recorded of it, its pass, and how the two hang together.
use Rattle.std.specs.Prelude.{◌≡◌, ℕ, suc, ◌-◌, ◌<◌, ◌≤◌, ◌++◌, IsTrue, List, [], ◌∷◌, drop, length, Option, Some, None, slice_get}
use Rattle.mx_audit.specs.Accounts.{Account}
use Rattle.mx_closing.specs.Views.{view_in}
use Rattle.mx_core.specs.AssociativeMemory.{recalled}
use Rattle.mx_core.specs.declared.elements.Kept.{Kept}
use Rattle.mx_core.specs.declared.elements.Kept.TheVariants.{Missed}
use Rattle.mx_core.specs.declared.words.Stage.TheVariants.{Outside}
use Rattle.mx_core.specs.declared.words.Triple.{Triple}
use Rattle.mx_desc.specs.Passes.{PassValue, without_trace}
use Rattle.mx_line.specs.AtWork.{IsCome}
use Rattle.mx_line.specs.Operands.{IsGoodProgress}
use Rattle.mx_line.specs.Fills.{write_of}
use Rattle.mx_line.specs.declared.fills.Behind.TheVariants.{Nowhere as Unknown}
use Rattle.mx_line.specs.declared.fills.Fill.{Fill}
use Rattle.mx_line.specs.declared.fills.Fill.TheVariants.{Words, Pointer}
use Rattle.mx_line.specs.declared.operands.Progress.{Progress}
use Rattle.mx_line.specs.declared.operands.Progress.TheVariants.{Before, Walking, AtLink, Waiting, Filling}
use Rattle.mx_line.specs.declared.processes.Process.{Process as LineState}
use Rattle.mx_office.specs.Serving.{told_to}
use Rattle.mx_request.specs.declared.requests.Request.TheVariants.{Logout}
use Rattle.mx_rule.specs.Shown.{fresh_view}
use Rattle.mx_script.specs.Sessions.{Outline, IsSession}
use Rattle.mx_script.specs.declared.lines.Line.{Line}
use Rattle.mx_script.specs.declared.lines.Line.TheVariants.{Ask}
use Rattle.mx_state.specs.declared.journal.Entry as journaled
use Rattle.mx_ties.specs.AtWork.{AtWork}
use Rattle.mx_ties.specs.Views.{View}
use Rattle.mx_ties.specs.Working.{IsWorking, HasWorked}
use Rattle.mx_transcript.specs.Asking.{next}
use Rattle.mx_transcript.specs.Courses.{Course}
use Rattle.mx_transcript.specs.Legal.{setup_entries}
use Rattle.mx_transcript.specs.Next.{Next, Asks, Fills, Calls, Ends, Nowhere}
use Rattle.mx_transcript.specs.Openings.{opening_control}
use Rattle.mx_transcript.specs.Scripts.{lines_of, script_at}
use Rattle.mx_upcall.specs.Control.{Control}
use Rattle.mx_upcall.specs.Soundness.{IsPackableControl}
use Rattle.mx_process.specs.Audited.{IsAudited}
use Rattle.mx_process.specs.Plans.{IsPlanned, IsUncut, left_of, left_out, number_in, place_in, plan_of}
use Rattle.mx_process.specs.declared.misses.Miss.{Miss}

-- its registers and return gates, what was recorded of its lines, and how far the line at work has come; the miss that is
-- still to be settled, if one is; what it did at the shared words and was told of; and what its auditor was told
pub record ProcessValue : Type 0 where
  pub state : LineState
  pub missing : Option Miss
  pub pass : PassValue journaled.Entry
  pub account : Option Account

-- what a process knows: who it is, its trace with the history that it was told of, and the last settled entry of each number
pub record Known : Type 0 where
  pub process : ℕ
  pub view : View
  pub told : ℕ → ℕ

abbrev pub known_of : PassValue journaled.Entry → Known
known_of o = record { process = o.view.process; view = view_in o; told = told_to o }

-- a line at work, which has done this
abbrev pub at_work : Outline → ℕ → LineState → Line → Course → AtWork
at_work x p state line course = record {
  ran = plan_of x p state;
  steps = state.recording.steps;
  number = number_in state;
  line = line;
  left = drop (suc (place_in x p state)) (lines_of x p);
  now = state.control;
  events = state.recording.events;
  course = course;
}

-- A line is at work: its events and those of all lines before are tied to the trace, and it has come so far. No write is due
-- in a `logout`, whose reply asks for none.
pub record IsAtWork (x : Outline) (setup : List journaled.Entry) (state : LineState) (line : Line) (k : Known) : Type 0 where
  pub course : Course
  pub working : IsWorking x setup k.process (at_work x k.process state line course) k.view k.told
  pub come : IsCome state.control line course state.progress
  pub filled : (fill : Fill) → state.progress ≡ Filling fill → line ≡ Ask Logout → ⊥

-- before these lines: the first of them is at work; where none is left, the process has worked
abbrev pub IsBefore : Outline → List journaled.Entry → LineState → List (ℕ × Line) → Known → Type 0
IsBefore x setup state [] k = HasWorked x setup k.process state.recording.steps k.view
IsBefore x setup state (line ∷ left) k = IsAtWork x setup state line.1 k

-- what is asked for is a reference to a word of this number
abbrev pub AsksIn : ℕ → Next → Type 0
AsksIn segno (Asks r) = r.segno ≡ segno
AsksIn segno (Fills r) = ⊥
AsksIn segno (Calls ring request) = ⊥
AsksIn segno (Ends ends after) = ⊥
AsksIn segno Nowhere = ⊥

abbrev pub IsReferringIn : ℕ → Control → Line → Progress → Type 0
IsReferringIn segno g line progress = (course : Course) → IsCome g line course progress → AsksIn segno (next g line course)

-- what a line that has come so far asks for is a word of this number: the write that is due, or a reference
abbrev pub AsksFor : ℕ → Control → Line → Progress → Type 0
AsksFor segno g line (Filling fill) = (write_of fill).segno ≡ segno
AsksFor segno g line Before = IsReferringIn segno g line Before
AsksFor segno g line (Walking walk) = IsReferringIn segno g line (Walking walk)
AsksFor segno g line (AtLink place) = IsReferringIn segno g line (AtLink place)
AsksFor segno g line Waiting = IsReferringIn segno g line Waiting

-- what follows the link words of a section is known
abbrev pub IsFitting : Fill → Type 0
IsFitting (Words words) = words.behind ≡ Unknown → ⊥
IsFitting (Pointer snap) = Unit {0}

-- so it is of the write that is due, if one is
abbrev pub IsFittingAt : Progress → Type 0
IsFittingAt progress = (fill : Fill) → progress ≡ Filling fill → IsFitting fill

-- a pass, but that it did only this
abbrev pub having_done : List Kept → PassValue journaled.Entry → PassValue journaled.Entry
having_done trace o = record o { view = record o.view { trace = trace } }

-- A miss is to be settled. It is the last that the process did, by an entry of which it was not told, and its memory has
-- nothing of the number; the transcript does not have it yet, and the line asks for a word of its number.
pub record IsMissing (x : Outline) (setup : List journaled.Entry) (state : LineState) (m : Miss) (line : Line)
    (o : PassValue journaled.Entry) : Type 0 where
  pub front : List Kept
  pub last : o.view.trace ≡ front ++ Missed m.segno m.by ∷ []
  pub news : told_to o m.segno < m.by
  pub unknown : recalled m.segno o.view.memory ≡ None
  pub asks : AsksFor m.segno state.control line state.progress
  pub before : IsAtWork x setup state line (known_of (having_done front o))

-- before these lines, whether a miss is to be settled or not
abbrev pub Stands : Outline → List journaled.Entry → LineState → Option Miss → List (ℕ × Line)
    → PassValue journaled.Entry → Type 0
Stands x setup state None left o = IsBefore x setup state left (known_of o)
Stands x setup state (Some m) [] o = ⊥
Stands x setup state (Some m) (line ∷ left) o = IsMissing x setup state m line.1 o

-- the script of process p of a session
abbrev pub script_of : Outline → ℕ → List Line
script_of x p = script_at x.scripts (p - 1)

-- What a process's type says. It is one of the session, and this is its script, without as many lines at its beginning as were
-- left out, so that the line at work is at the place that counts the lines done. It is outside, and the memory that it keeps
-- is that of its pass. Where a write is due it is known what follows. What was recorded of its lines is tied to its pass. Its
-- auditor, if it has one, had one of these accounts and was told of its denials; where there is no account of its, no line was
-- left out.
pub record IsProcess (x : Outline) (setup : List journaled.Entry) (accounts : List Account) (script : List Line)
    (memory : List Triple) (v : ProcessValue) : Type 0 where
  pub session : IsSession x
  pub some : 1 ≤ v.pass.view.process
  pub own : script ≡ drop (left_out x v.pass.view.process v.state) (script_of x v.pass.view.process)
  pub same : memory ≡ v.pass.view.memory
  pub outside : v.pass.view.stage ≡ Outside
  pub planned : IsPlanned x v.pass.view.process v.state
  pub within : place_in x v.pass.view.process v.state ≤ length (lines_of x v.pass.view.process)
  pub packable : IsPackableControl v.state.control
  pub good : IsGoodProgress v.state.control.registers v.state.progress
  pub fitting : IsFittingAt v.state.progress
  pub stands : Stands x setup v.state v.missing (left_of x v.pass.view.process v.state) v.pass
  pub alone : slice_get accounts (v.pass.view.process - 1) ≡ None → IsUncut x v.pass.view.process v.state
  pub audited : IsAudited x v.pass.view.process (slice_get accounts (v.pass.view.process - 1)) v.state v.account

-- a pass of a process of the session that did nothing yet: it was told of the setup's entries
pub record IsNewPass (x : Outline) (o : PassValue journaled.Entry) : Type 0 where
  pub process : o.view.process ≤ length x.principals
  pub view : o.view ≡ fresh_view (setup_entries x) o.view.process
  pub amount : o.amount ≡ 0

-- before its first line, without an auditor; its pass keeps no trace
pub record IsNew (x : Outline) (o : PassValue journaled.Entry) (v : ProcessValue) : Type 0 where
  pub control : v.state.control ≡ opening_control x o.view.process
  pub steps : v.state.recording.steps ≡ []
  pub events : v.state.recording.events ≡ []
  pub progress : v.state.progress ≡ Before
  pub settled : v.missing ≡ None
  pub pass : v.pass ≡ without_trace o
  pub unaudited : v.account ≡ None

-- a line is left, and it is this one
pub record IsAtLine (x : Outline) (v : ProcessValue) (number : ℕ) (line : Line) : Type 0 where
  pub left : List (ℕ × Line)
  pub at : left_of x v.pass.view.process v.state ≡ (number, line) ∷ left

pub record HasLine (x : Outline) (v : ProcessValue) : Type 0 where
  pub number : ℕ
  pub line : Line
  pub at : IsAtLine x v number line

-- How many events an attempt at a line has at most: eight indirect words and its own reference, and one more since a line
-- that has not begun counts for one.
abbrev pub attempt_events : ℕ
attempt_events = 10

-- there is room for an attempt at the pass and in the transcript, and for the line's end
pub record HasRoom (v : ProcessValue) : Type 0 where
  pub trace : attempt_events ≤ v.pass.spare
  pub events : attempt_events ≤ v.state.recording.spare
  pub line : IsTrue v.state.recording.line_room

-- nothing but the room differs
pub record IsStill (old new : ProcessValue) : Type 0 where
  pub first : new.state.first ≡ old.state.first
  pub control : new.state.control ≡ old.state.control
  pub steps : new.state.recording.steps ≡ old.state.recording.steps
  pub events : new.state.recording.events ≡ old.state.recording.events
  pub progress : new.state.progress ≡ old.state.progress
  pub missing : new.missing ≡ old.missing
  pub view : new.pass.view ≡ old.pass.view
  pub amount : new.pass.amount ≡ old.pass.amount
  pub account : new.account ≡ old.account
