-- A line of a process, by all that it may take: attempts, misses that are settled, calls, and the writes for which their
-- replies ask.
use Rattle.std.specs.Prelude.{◌≡◌, ◌↔◌, ◌⊎◌, ℕ, ◌≤◌, List, [], ◌∷◌, ◌++◌, IsSome, Option, None, Some}
use Rattle.mx_line.specs.AtWork.{IsCome, IsFree}
use Rattle.mx_line.specs.declared.operands.Progress.{Progress}
use Rattle.mx_line.specs.declared.operands.Progress.TheVariants.{Before, Waiting}
use Rattle.mx_request.specs.declared.requests.Request.{Request}
use Rattle.mx_request.specs.declared.requests.Request.TheVariants.{Block}
use Rattle.mx_script.specs.Sessions.{Outline}
use Rattle.mx_script.specs.declared.lines.Line.{Line}
use Rattle.mx_transcript.specs.Asking.{next}
use Rattle.mx_transcript.specs.Courses.{Course}
use Rattle.mx_transcript.specs.Next.{Calls}
use Rattle.mx_transcript.specs.declared.transcripts.Event2.{Event2}
use Rattle.mx_transcript.specs.declared.transcripts.Result2.{Result2}
use Rattle.mx_process.specs.Filling.{IsDue}
use Rattle.mx_process.specs.Plans.{left_of, number_in}
use Rattle.mx_process.specs.Processes.{ProcessValue, IsAtLine}
use Rattle.mx_process.specs.declared.legs.Leg.{Leg}
use Rattle.mx_process.specs.declared.legs.Leg.TheVariants as leg
use Rattle.mx_process.specs.declared.lines.Turned.{Turned}
use Rattle.mx_process.specs.declared.lines.Turned.TheVariants as turned

-- it is the same process, and has an auditor if it had one
pub record IsOwn (old new : ProcessValue) : Type 0 where
  pub process : new.pass.view.process ≡ old.pass.view.process
  pub attended : IsSome old.account ↔ IsSome new.account

-- no line is left
abbrev pub HasNoLine : Outline → ProcessValue → Type 0
HasNoLine x v = left_of x v.pass.view.process v.state ≡ []

-- no `block` of it waits for a message
abbrev pub IsAwake : ProcessValue → Type 0
IsAwake v = v.state.progress ≡ Waiting → ⊥

-- no write is due, and no `block` waits
abbrev pub IsIdle : Progress → Type 0
IsIdle progress = IsFree progress × (progress ≡ Waiting → ⊥)

-- the line at work asks for this call, whatever it has done
pub record IsCalling (x : Outline) (v : ProcessValue) (ring : ℕ) (request : Request) : Type 0 where
  pub number : ℕ
  pub line : Line
  pub at : IsAtLine x v number line
  pub asks : (course : Course) → IsCome v.state.control line course v.state.progress
      → next v.state.control line course ≡ Calls ring request

-- The line at work goes on: no line has ended, and it has these events more.
pub record HasGoneOn (old new : ProcessValue) : Type 0 where
  pub own : IsOwn old new
  pub first : new.state.first ≡ old.state.first
  pub control : new.state.control ≡ old.state.control
  pub steps : new.state.recording.steps ≡ old.state.recording.steps
  pub more : List Event2
  pub events : new.state.recording.events ≡ old.state.recording.events ++ more

-- The line has ended: it stands in the transcript under its number, with all its events and its result, and the next one
-- begins, which may be the last one: no fewer lines are left out than before.
pub record HasEnded (old new : ProcessValue) : Type 0 where
  pub own : IsOwn old new
  pub onward : old.state.first ≤ new.state.first
  pub more : List Event2
  pub ends : Result2
  pub steps : new.state.recording.steps ≡ old.state.recording.steps
      ++ (number_in old.state, old.state.recording.events ++ more, ends) ∷ []
  pub idle : new.state.recording.events ≡ []
  pub fresh : new.state.progress ≡ Before
  pub settled : new.missing ≡ None

-- what the reply to its call leaves of a line that goes on: a write is due, or its process was told to wait
abbrev pub IsLeftByReply : ProcessValue → Type 0
IsLeftByReply v = IsDue v.state.progress ⊎ (v.state.progress ≡ Waiting)

-- the line at work is a `block`, which is to be made
pub record IsAtBlock (x : Outline) (v : ProcessValue) : Type 0 where
  pub settled : v.missing ≡ None
  pub calls : IsCalling x v v.state.control.registers.ring Block

-- what one leg of a line comes to
abbrev pub HasMadeLeg : Outline → ProcessValue → Leg → ProcessValue → Type 0
HasMadeLeg x old leg.More new = HasGoneOn old new × IsAwake new
HasMadeLeg x old leg.Done new = HasEnded old new
HasMadeLeg x old leg.Blocks new = HasGoneOn old new × IsAtBlock x new
HasMadeLeg x old leg.Waits new = HasGoneOn old new × (new.state.progress ≡ Waiting)

-- and where the line does not sleep: it goes on, or the turn is over
abbrev pub HasTurnedTo : ProcessValue → Option Turned → ProcessValue → Type 0
HasTurnedTo old None new = HasGoneOn old new
HasTurnedTo old (Some turned.Done) new = HasEnded old new
HasTurnedTo old (Some turned.Waits) new = HasGoneOn old new × (new.state.progress ≡ Waiting)
