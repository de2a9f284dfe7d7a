-- A call of a process at the office, and where its answer leaves the line.
use Rattle.std.specs.Prelude.{◌≡◌, ◌⊎◌, ℕ, ◌<◌, ◌≤◌, ◌^◌, List, [], ◌∷◌, ◌++◌, false}
use Rattle.mx_hier.specs.declared.refusals.Refusal.TheVariants.{NoEntry}
use Rattle.mx_line.specs.AtWork.{IsCome, StandsAt}
use Rattle.mx_line.specs.Operands.{IsGoodProgress, IsSayable}
use Rattle.mx_line.specs.declared.asking.End.{End}
use Rattle.mx_line.specs.declared.at_work.LineAtWork.{LineAtWork}
use Rattle.mx_line.specs.declared.at_work.LineAtWork.TheVariants as works
use Rattle.mx_line.specs.declared.operands.Progress.{Progress}
use Rattle.mx_line.specs.declared.operands.Progress.TheVariants.{Waiting}
use Rattle.mx_line.specs.declared.processes.Process.{Process as LineState}
use Rattle.mx_office.specs.Replies.{IsReplyFor}
use Rattle.mx_office.specs.Serving.{answer_of}
use Rattle.mx_office.specs.declared.answers.Answer.{Answer}
use Rattle.mx_office.specs.declared.answers.Answer.TheVariants as answer
use Rattle.mx_request.specs.declared.replies.Reply.{Reply}
use Rattle.mx_request.specs.declared.replies.Reply.TheVariants as reply
use Rattle.mx_request.specs.declared.requests.Request.{Request}
use Rattle.mx_request.specs.declared.requests.Request.TheVariants.{Block, Resume}
use Rattle.mx_script.specs.Sessions.{Outline}
use Rattle.mx_script.specs.declared.lines.Line.{Line}
use Rattle.mx_sdw.specs.declared.denials.Denial.{Denial}
use Rattle.mx_state.specs.Told.{IsLinkedWithin}
use Rattle.mx_state.specs.declared.journal.Entry as journaled
use Rattle.mx_transcript.specs.Asking.{next}
use Rattle.mx_transcript.specs.Courses.{Course, Answer as Answering}
use Rattle.mx_transcript.specs.Next.{Calls}
use Rattle.mx_transcript.specs.declared.transcripts.Event2.{Event2}
use Rattle.mx_transcript.specs.declared.transcripts.Event2.TheVariants.{Entry}
use Rattle.mx_transcript.specs.declared.transcripts.Result2.{Result2}
use Rattle.mx_transcript.specs.declared.transcripts.Result2.TheVariants as result
use Rattle.mx_upcall.specs.Changes.{changed}
use Rattle.mx_upcall.specs.Soundness.{IsPackableControl}
use Rattle.mx_process.specs.Filling.{IsDue}
use Rattle.mx_process.specs.Plans.{IsPlanned, number_in}
use Rattle.mx_process.specs.Processes.{IsFittingAt, Known, IsAtWork, known_of}
use Rattle.mx_process.specs.Turns.{Ends, HasEnd, HasEvent, Inside, IsSameLine}
use Rattle.mx_process.specs.declared.entries.Answered.{Answered}
use Rattle.mx_process.specs.declared.entries.Answered.TheVariants as answered

-- A reply that is answered so: what a line does by a reply hangs on no more than that.
abbrev pub plainest : Answer → Reply
plainest answer.Refused = reply.Refused NoEntry
plainest (answer.Known linkage) = reply.Segno (record { segno = 0; fresh = false; linkage = linkage })
plainest (answer.Linked segno word linkage) = reply.Linked segno word false linkage
plainest answer.Waiting = reply.Waiting
plainest answer.Other = reply.Done

-- a line asks for this call, whatever it has done
abbrev pub CallsFor : LineState → Line → ℕ → Request → Type 0
CallsFor state line ring request = (course : Course) → IsCome state.control line course state.progress
    → next state.control line course ≡ Calls ring request

-- a line is at work, and asks for this call
pub record IsAtCall (x : Outline) (setup : List journaled.Entry) (state : LineState) (line : Line) (ring : ℕ)
    (request : Request) (k : Known) : Type 0 where
  pub sayable : IsSayable line
  pub packable : IsPackableControl state.control
  pub good : IsGoodProgress state.control.registers state.progress
  pub fitting : IsFittingAt state.progress
  pub some : 1 ≤ k.process
  pub planned : IsPlanned x k.process state
  pub countable : number_in state < 2 ^ 32
  pub work : IsAtWork x setup state line k
  pub calls : CallsFor state line ring request

-- The call for which a line asks was entered, and this answer tells of the reply. A process that waits and resumes is not
-- told to wait again.
pub record HasReply (state : LineState) (line : Line) (given : Answer) : Type 0 where
  pub course : Course
  pub come : IsCome state.control line course state.progress
  pub entry : journaled.Entry
  pub calls : next state.control line course ≡ Calls entry.ring entry.request
  pub told : given ≡ answer_of entry.reply
  pub linked : IsLinkedWithin entry.reply
  pub fits : IsReplyFor entry.request entry.reply
  pub awake : entry.reply ≡ reply.Waiting → entry.request ≡ Resume → ⊥

-- The call was `block` or `resume`, and its process is not told to wait.
pub record HasLastReply (state : LineState) (line : Line) (given : Answer) : Type 0 where
  pub has : HasReply state line given
  pub asks : (has.entry.request ≡ Block) ⊎ (has.entry.request ≡ Resume)
  pub other : given ≡ answer.Waiting → ⊥

-- where a reply leaves a line that goes on: a write is due, or its process was told to wait
abbrev pub IsLeft : Progress → Type 0
IsLeft progress = IsDue progress ⊎ (progress ≡ Waiting)

-- a line ended with a reply
abbrev pub IsReplied : Result2 → Type 0
IsReplied ends = (ends ≡ result.Done) ⊎ (ends ≡ result.Refused)

abbrev pub IsLeftAt : LineAtWork → Type 0
IsLeftAt (works.At progress) = IsLeft progress
IsLeftAt (works.Ended end) = IsReplied end.ends
IsLeftAt works.Nowhere = ⊥

-- by where the line stands after an event
abbrev pub GoesBy : LineState → Event2 → LineAtWork → Answered → LineState → Type 0
GoesBy old event (works.At progress) answered.More new = HasEvent old event progress new
GoesBy old event (works.Ended end) answered.Done new = HasEnd old (old.recording.events ++ event ∷ []) end new
GoesBy _ _ _ _ _ = ⊥

-- The transcript has the entry of this number, and the line stands where the line rule has it after each reply to its call
-- that is answered so.
pub record HasAnswered (old : LineState) (line : Line) (number : ℕ) (given : Answer) (came : Answered) (new : LineState)
    : Type 0 where
  pub work : LineAtWork
  pub stands : (course : Course) (entry : journaled.Entry) → IsCome old.control line course old.progress
      → next old.control line course ≡ Calls entry.ring entry.request → given ≡ answer_of entry.reply
      → StandsAt old.control line (Answering entry []) work
  pub left : IsLeftAt work
  pub goes : GoesBy old (Entry number) work came new

-- the line has ended without an entry, since the journal was full
pub record HasFilled (old new : LineState) : Type 0 where
  pub end : End
  pub full : end.ends ≡ result.HistoryFull
  pub same : changed old.control end.after ≡ old.control
  pub ended : HasEnd old old.recording.events end new

-- the same line is at work
pub record StaysAt (x : Outline) (setup : List journaled.Entry) (line : Line) (old : LineState) (new : Inside) : Type 0 where
  pub same : IsSameLine old new.state
  pub work : IsAtWork x setup new.state line (known_of new.pass)
  pub good : IsGoodProgress new.state.control.registers new.state.progress
  pub fitting : IsFittingAt new.state.progress

-- it goes on by a reply
pub record GoesOnBy (x : Outline) (setup : List journaled.Entry) (line : Line) (old : LineState) (new : Inside) : Type 0 where
  pub stays : StaysAt x setup line old new
  pub left : IsLeft new.state.progress

-- it has ended, and was not denied
pub record EndsBy (x : Outline) (setup : List journaled.Entry) (old : LineState) (new : Inside) : Type 0 where
  pub ended : Ends x setup old new
  pub undenied : (denial : Denial) → ended.ends ≡ result.Denied denial → ⊥

-- what a call comes to
abbrev pub HasCalled : Outline → List journaled.Entry → Line → LineState → Answered → Inside → Type 0
HasCalled x setup line old answered.More new = GoesOnBy x setup line old new
HasCalled x setup line old answered.Done new = EndsBy x setup old new
