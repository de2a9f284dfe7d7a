-- One turn of an attempt at a line.
use Rattle.std.specs.Prelude.{◌≡◌, ℕ, ◌<◌, ◌≤◌, ◌^◌, List, [], ◌∷◌, ◌++◌}
use Rattle.mx_core.specs.declared.elements.Element.{Element}
use Rattle.mx_core.specs.declared.elements.Event.TheVariants.{Seen}
use Rattle.mx_desc.specs.Passes.{PassValue}
use Rattle.mx_effring.specs.Walks.{Reached}
use Rattle.mx_line.specs.AtWork.{IsCome, IsFree, IsStorableBy, reference_in}
use Rattle.mx_line.specs.Fills.{IsNoRequest}
use Rattle.mx_line.specs.Operands.{IsGoodProgress, IsMemoryLine, IsSayable, steps_in}
use Rattle.mx_line.specs.Processes.{Takes}
use Rattle.mx_line.specs.declared.asking.Called.{Called}
use Rattle.mx_line.specs.declared.asking.Called.TheVariants as called
use Rattle.mx_line.specs.declared.asking.End.{End}
use Rattle.mx_line.specs.declared.asking.Reference as asked
use Rattle.mx_line.specs.declared.at_work.LineAtWork.{LineAtWork}
use Rattle.mx_line.specs.declared.at_work.LineAtWork.TheVariants as works
use Rattle.mx_line.specs.declared.operands.Place.{Place}
use Rattle.mx_line.specs.declared.operands.Progress.{Progress}
use Rattle.mx_line.specs.declared.operands.Progress.TheVariants.{Before, Walking}
use Rattle.mx_line.specs.declared.processes.Process.{Process as LineState}
use Rattle.mx_office.specs.Serving.{told_to}
use Rattle.mx_request.specs.declared.requests.Request.TheVariants.{Link}
use Rattle.mx_script.specs.Sessions.{Outline}
use Rattle.mx_script.specs.declared.lines.Line.{Line}
use Rattle.mx_sdw.specs.Descriptors.{Descriptor}
use Rattle.mx_state.specs.declared.journal.Entry as journaled
use Rattle.mx_transcript.specs.Asking.{next}
use Rattle.mx_transcript.specs.Courses.{Course}
use Rattle.mx_transcript.specs.Next.{Asks, Calls}
use Rattle.mx_transcript.specs.declared.transcripts.Event2.{Event2}
use Rattle.mx_transcript.specs.declared.transcripts.Event2.TheVariants.{Core}
use Rattle.mx_transcript.specs.declared.transcripts.Result2.{Result2}
use Rattle.mx_upcall.specs.Changes.{changed}
use Rattle.mx_upcall.specs.Soundness.{IsPackableControl}
use Rattle.mx_process.specs.Plans.{IsPlanned, left_of, number_in}
use Rattle.mx_process.specs.Processes.{Known, IsAtWork, IsBefore, IsFittingAt, IsMissing, known_of}
use Rattle.mx_process.specs.declared.misses.Miss.{Miss}
use Rattle.mx_process.specs.declared.turns.Turn.{Turn}
use Rattle.mx_process.specs.declared.turns.Turn.TheVariants as turn

-- a process within an attempt: its line, and its pass
pub record Inside : Type 0 where
  pub state : LineState
  pub pass : PassValue journaled.Entry

abbrev pub inside : LineState → PassValue journaled.Entry → Inside
inside state pass = record { state = state; pass = pass }

-- the same process, where the walk of its line stands here
abbrev pub walking : LineState → Reached → LineState
walking state walk = record state { progress = Walking walk }

-- a line that is no request is at work, and no write is due
pub record IsAttempting (x : Outline) (setup : List journaled.Entry) (state : LineState) (line : Line) (k : Known) : Type 0 where
  pub sayable : IsSayable line
  pub other : IsNoRequest line
  pub free : IsFree state.progress
  pub packable : IsPackableControl state.control
  pub good : IsGoodProgress state.control.registers state.progress
  pub some : 1 ≤ k.process
  pub planned : IsPlanned x k.process state
  pub countable : number_in state < 2 ^ 32
  pub work : IsAtWork x setup state line k

-- it asks for this reference, whatever it has done
pub record IsReferring (state : LineState) (line : Line) (r : asked.Reference) : Type 0 where
  pub memory : IsMemoryLine line
  pub asks : (course : Course) → IsCome state.control line course state.progress
      → next state.control line course ≡ Asks (reference_in r)
  pub storable : IsStorableBy r.op r.stores

-- that the link in this word be snapped
abbrev pub IsLinking : LineState → Line → Place → Type 0
IsLinking state line place = (course : Course) → IsCome state.control line course state.progress
    → next state.control line course ≡ Calls place.ring (Link place.segno place.word)

abbrev pub IsLinkCall : Called → Type 0
IsLinkCall called.Own = ⊥
IsLinkCall called.Resume = ⊥
IsLinkCall (called.Link segno word) = Unit {0}

abbrev pub IsAtLink : ℕ → Called → Turn → Type 0
IsAtLink ring called.Own went = ⊥
IsAtLink ring called.Resume went = ⊥
IsAtLink ring (called.Link segno word) went =
    went ≡ turn.AtLink (record { segno = segno; word = word; ring = ring })

-- the line has this event more, and has come so far
pub record HasEvent (old : LineState) (event : Event2) (come : Progress) (new : LineState) : Type 0 where
  pub first : new.first ≡ old.first
  pub control : new.control ≡ old.control
  pub steps : new.recording.steps ≡ old.recording.steps
  pub events : new.recording.events ≡ old.recording.events ++ event ∷ []
  pub progress : new.progress ≡ come
  pub room : new.recording.line_room ≡ old.recording.line_room

-- the line has ended so, with these events
pub record HasEnd (old : LineState) (events : List Event2) (end : End) (new : LineState) : Type 0 where
  pub first : new.first ≡ old.first
  pub control : new.control ≡ changed old.control end.after
  pub steps : new.recording.steps ≡ old.recording.steps ++ (number_in old, events, end.ends) ∷ []
  pub idle : new.recording.events ≡ []
  pub progress : new.progress ≡ Before

-- by where the line stands after an element
abbrev pub Comes : LineState → Event2 → LineAtWork → Turn → LineState → Type 0
Comes old event (works.At progress) went new = (went ≡ turn.More) × HasEvent old event progress new
Comes old event (works.Ended end) went new = (went ≡ turn.Ended) × HasEnd old (old.recording.events ++ event ∷ []) end new
Comes old event works.Nowhere went new = ⊥

-- the line has met this element
pub record HasTaken (old : LineState) (line : Line) (e : Element) (d : Descriptor) (new : LineState) (went : Turn) : Type 0 where
  pub work : LineAtWork
  pub takes : Takes old.control line old.progress e d work
  pub comes : Comes old (Core (Seen e)) work went new

-- the same line is at work, with these events more
pub record IsSameLine (old new : LineState) : Type 0 where
  pub first : new.first ≡ old.first
  pub control : new.control ≡ old.control
  pub steps : new.recording.steps ≡ old.recording.steps
  pub more : List Event2
  pub events : new.recording.events ≡ old.recording.events ++ more
  pub room : new.recording.line_room ≡ old.recording.line_room

-- The line goes on.
pub record GoesOn (x : Outline) (setup : List journaled.Entry) (line : Line) (old : LineState) (new : Inside) : Type 0 where
  pub same : IsSameLine old new.state
  pub attempting : IsAttempting x setup new.state line (known_of new.pass)
  pub nearer : steps_in new.state.progress < steps_in old.progress

-- It has ended, and the next one begins.
pub record Ends (x : Outline) (setup : List journaled.Entry) (old : LineState) (new : Inside) : Type 0 where
  pub more : List Event2
  pub ends : Result2
  pub steps : new.state.recording.steps ≡ old.recording.steps
      ++ (number_in old, old.recording.events ++ more, ends) ∷ []
  pub idle : new.state.recording.events ≡ []
  pub fresh : new.state.progress ≡ Before
  pub first : new.state.first ≡ old.first
  pub packable : IsPackableControl new.state.control
  pub before : IsBefore x setup new.state (left_of x new.pass.view.process new.state) (known_of new.pass)

-- A reference missed.
pub record Misses (x : Outline) (setup : List journaled.Entry) (line : Line) (old : LineState) (m : Miss)
    (new : Inside) : Type 0 where
  pub same : IsSameLine old new.state
  pub good : IsGoodProgress new.state.control.registers new.state.progress
  pub fitting : IsFittingAt new.state.progress
  pub missing : IsMissing x setup new.state m line new.pass

-- A link is to be snapped.
pub record Links (x : Outline) (setup : List journaled.Entry) (line : Line) (old : LineState) (place : Place)
    (new : Inside) : Type 0 where
  pub same : IsSameLine old new.state
  pub attempting : IsAttempting x setup new.state line (known_of new.pass)
  pub linking : IsLinking new.state line place

abbrev pub HasTurned : Outline → List journaled.Entry → Line → LineState → Turn → Inside → Type 0
HasTurned x setup line old turn.More new = GoesOn x setup line old new
HasTurned x setup line old turn.Ended new = Ends x setup old new
HasTurned x setup line old (turn.Missing m) new = Misses x setup line old m new
HasTurned x setup line old (turn.AtLink place) new = Links x setup line old place new

-- an attempt tells a process of no entry, and makes none
pub record IsUntold (o o' : PassValue journaled.Entry) : Type 0 where
  pub process : o'.view.process ≡ o.view.process
  pub history : o'.view.history ≡ o.view.history
  pub told : (n : ℕ) → told_to o' n ≡ told_to o n
  pub amount : o'.amount ≡ o.amount
