-- A write that a reply asks for, as its process makes it.
use Rattle.std.specs.Prelude.{◌≡◌, ◌↔◌, ℕ, ◌<◌, ◌≤◌, ◌^◌, List, [], ◌∷◌, ◌++◌, IsSome, None}
use Rattle.mx_core.specs.declared.elements.Element.{Element}
use Rattle.mx_core.specs.declared.elements.Event.TheVariants.{Seen}
use Rattle.mx_core.specs.declared.elements.Outcome.{Outcome}
use Rattle.mx_core.specs.declared.elements.Outcome.TheVariants as outcome
use Rattle.mx_line.specs.AtWork.{StandsAt, beside, ended}
use Rattle.mx_line.specs.Fills.{IsFilling, write_of}
use Rattle.mx_line.specs.Operands.{IsGoodProgress, IsSayable}
use Rattle.mx_line.specs.declared.at_work.LineAtWork.{LineAtWork}
use Rattle.mx_line.specs.declared.at_work.LineAtWork.TheVariants as works
use Rattle.mx_line.specs.declared.fills.Fill.{Fill}
use Rattle.mx_line.specs.declared.operands.Progress.{Progress}
use Rattle.mx_line.specs.declared.operands.Progress.TheVariants.{Before, Walking, AtLink, Waiting, Filling}
use Rattle.mx_line.specs.declared.processes.Process.{Process as LineState}
use Rattle.mx_script.specs.Sessions.{Outline}
use Rattle.mx_script.specs.declared.lines.Line.{Line}
use Rattle.mx_sdw.specs.Descriptors.{Descriptor}
use Rattle.mx_state.specs.declared.journal.Entry as journaled
use Rattle.mx_transcript.specs.Courses.{Answer, Judged}
use Rattle.mx_transcript.specs.Elements.{IsJudged}
use Rattle.mx_transcript.specs.declared.transcripts.Event2.{Event2}
use Rattle.mx_transcript.specs.declared.transcripts.Event2.TheVariants.{Core}
use Rattle.mx_transcript.specs.declared.transcripts.Result2.TheVariants as result
use Rattle.mx_upcall.specs.Control.{Control}
use Rattle.mx_upcall.specs.Soundness.{IsPackableControl}
use Rattle.mx_process.specs.Plans.{IsPlanned, MayBeCut, number_in}
use Rattle.mx_process.specs.Processes.{Known, ProcessValue, IsAtLine, IsAtWork, IsFitting, known_of}
use Rattle.mx_process.specs.Turns.{Comes, Ends, HasEnd, HasEvent, Inside, IsUntold, Misses}
use Rattle.mx_process.specs.declared.filling.Wrote.{Wrote}
use Rattle.mx_process.specs.declared.filling.Wrote.TheVariants as wrote
use Rattle.mx_process.specs.declared.misses.Miss.{Miss}
use Rattle.mx_process.specs.declared.turns.Turn.{Turn}
use Rattle.mx_process.specs.declared.turns.Turn.TheVariants as turn

-- a write is due
pub record IsDue (progress : Progress) : Type 0 where
  pub fill : Fill
  pub is : progress ≡ Filling fill
  pub fitting : IsFitting fill

-- another write is due, or the line begins anew
abbrev pub IsOnward : Progress → Type 0
IsOnward Before = Unit {0}
IsOnward (Filling fill) = IsFitting fill
IsOnward (Walking walk) = ⊥
IsOnward (AtLink place) = ⊥
IsOnward Waiting = ⊥

abbrev pub IsOnwardAt : LineAtWork → Type 0
IsOnwardAt (works.At progress) = IsOnward progress
IsOnwardAt (works.Ended end) = Unit {0}
IsOnwardAt works.Nowhere = ⊥

-- Where a write leaves its line. Where it was made, the line stands where the line rule has it after all writes so far and this
-- one; where it was denied, the line ends with that denial.
abbrev pub Leads : Control → Line → Fill → Element → Descriptor → Outcome → LineAtWork → Type 0
Leads g line fill e d (outcome.Written value) work = (entry : journaled.Entry) (filled : List Judged)
    → IsFilling g line entry filled fill → StandsAt g line (Answer entry (filled ++ beside e d ∷ [])) work
Leads g line fill e d (outcome.Denied denial) work = work ≡ ended (result.Denied denial) g
Leads g line fill e d (outcome.Read value writer stamp) work = ⊥
Leads g line fill e d (outcome.Entered ring) work = ⊥

-- some writes were made since a reply, and this one is due
pub record IsSince (g : Control) (line : Line) (fill : Fill) : Type 0 where
  pub entry : journaled.Entry
  pub filled : List Judged
  pub filling : IsFilling g line entry filled fill

-- a line is at work, and a write is due
pub record IsWriting (x : Outline) (setup : List journaled.Entry) (state : LineState) (line : Line) (k : Known) : Type 0 where
  pub sayable : IsSayable line
  pub due : IsDue state.progress
  pub packable : IsPackableControl state.control
  pub good : IsGoodProgress state.control.registers state.progress
  pub some : 1 ≤ k.process
  pub planned : IsPlanned x k.process state
  pub countable : number_in state < 2 ^ 32
  pub work : IsAtWork x setup state line k

-- the write that was due was judged on this descriptor, and the line has gone on so
pub record HasStored (old : LineState) (line : Line) (e : Element) (d : Descriptor) (new : LineState) (went : Turn) : Type 0 where
  pub fill : Fill
  pub due : old.progress ≡ Filling fill
  pub right : IsJudged (write_of fill) d e
  pub work : LineAtWork
  pub leads : Leads old.control line fill e d e.outcome work
  pub onward : IsOnwardAt work
  pub comes : Comes old (Core (Seen e)) work went new

-- by where the line stands after it
abbrev pub StandsIn : Outline → List journaled.Entry → Line → LineState → LineAtWork → Inside → Type 0
StandsIn x setup line old (works.At progress) new =
    IsAtWork x setup new.state line (known_of new.pass) × IsGoodProgress new.state.control.registers new.state.progress
StandsIn x setup line old (works.Ended end) new = Ends x setup old new
StandsIn x setup line old works.Nowhere new = ⊥

pub record Stores (x : Outline) (setup : List journaled.Entry) (line : Line) (old : LineState) (went : Turn) (new : Inside)
    : Type 0 where
  pub element : Element
  pub desc : Descriptor
  pub stored : HasStored old line element desc new.state went
  pub stands : StandsIn x setup line old stored.work new

-- It missed, and is due.
pub record MissesWrite (x : Outline) (setup : List journaled.Entry) (line : Line) (old : LineState) (m : Miss) (new : Inside)
    : Type 0 where
  pub misses : Misses x setup line old m new
  pub due : new.state.progress ≡ old.progress

abbrev pub HasWrote : Outline → List journaled.Entry → Line → LineState → Turn → Inside → Type 0
HasWrote x setup line old turn.More new = Stores x setup line old turn.More new
HasWrote x setup line old turn.Ended new = Stores x setup line old turn.Ended new
HasWrote x setup line old (turn.Missing m) new = MissesWrite x setup line old m new
HasWrote x setup line old (turn.AtLink place) new = ⊥

-- what is told of it
abbrev pub CameTo : LineState → Event2 → LineAtWork → Wrote → LineState → Type 0
CameTo old event (works.At progress) wrote.More new = HasEvent old event progress new × IsOnward progress
CameTo old event (works.Ended end) wrote.Done new = HasEnd old (old.recording.events ++ event ∷ []) end new
CameTo _ _ _ _ _ = ⊥

-- The write that was due was judged, and the transcript has it as the line's next element. Where it was made, the line has gone
-- on as the line rule says: to the next write, to a new attempt, or to its end; where it was denied, it has ended with that
-- denial. Only where the line has ended the part may have been cut.
pub record HasWritten (x : Outline) (old : ProcessValue) (came : Wrote) (new : ProcessValue) : Type 0 where
  pub number : ℕ
  pub line : Line
  pub at : IsAtLine x old number line
  pub fill : Fill
  pub due : old.state.progress ≡ Filling fill
  pub element : Element
  pub desc : Descriptor
  pub right : IsJudged (write_of fill) desc element
  pub work : LineAtWork
  pub leads : Leads old.state.control line fill element desc element.outcome work
  pub ended : LineState
  pub goes : CameTo old.state (Core (Seen element)) work came ended
  pub cut : MayBeCut ended new.state
  pub uncut : came ≡ wrote.More → new.state ≡ ended
  pub settled : new.missing ≡ None
  pub attended : IsSome old.account ↔ IsSome new.account
  pub untold : IsUntold old.pass new.pass
