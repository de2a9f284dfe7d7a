-- Helpers: the line at work. Where a process stands within its line, by what the line has done; what the line asks for there;
-- and what an event that answers makes of it.
use Rattle.std.specs.Prelude.{◌≡◌, ℕ, ◌<◌, List, [], Option, Some, None, IsSome}
use Rattle.mx_call.specs.Registers.{Registers}
use Rattle.mx_core.specs.declared.elements.Element.{Element}
use Rattle.mx_core.specs.declared.elements.Event.TheVariants.{Seen}
use Rattle.mx_core.specs.declared.elements.Outcome.{Outcome}
use Rattle.mx_ptr.specs.Pointers.{PointerParts}
use Rattle.mx_sdw.specs.Descriptors.{Descriptor}
use Rattle.mx_sdw.specs.declared.operations.Op.{Op}
use Rattle.mx_sdw.specs.declared.operations.Op.TheVariants.{Write}
use Rattle.mx_request.specs.declared.replies.Reply.{Reply}
use Rattle.mx_request.specs.declared.replies.Reply.TheVariants as reply
use Rattle.mx_request.specs.declared.requests.Request.{Request}
use Rattle.mx_request.specs.declared.requests.Request.TheVariants as ask
use Rattle.mx_script.specs.declared.lines.Line.{Line}
use Rattle.mx_script.specs.declared.lines.Line.TheVariants as line
use Rattle.mx_state.specs.declared.journal.Entry as journaled
use Rattle.mx_transcript.specs.Asking.{next}
use Rattle.mx_transcript.specs.Attempts.{attempt}
use Rattle.mx_transcript.specs.Courses.{Course, Attempt, Answer, Judged}
use Rattle.mx_transcript.specs.Elements.{IsJudged}
use Rattle.mx_transcript.specs.Events.{IsEvent}
use Rattle.mx_transcript.specs.Next.{Next, Reference, Asks, Fills, Calls, Ends, Nowhere}
use Rattle.mx_transcript.specs.Settings.{Setting}
use Rattle.mx_transcript.specs.Targets.{after_target}
use Rattle.mx_transcript.specs.declared.transcripts.Event2.{Event2}
use Rattle.mx_transcript.specs.declared.transcripts.Event2.TheVariants.{Core}
use Rattle.mx_transcript.specs.declared.transcripts.Result2.{Result2}
use Rattle.mx_transcript.specs.declared.transcripts.Result2.TheVariants as result
use Rattle.mx_upcall.specs.Changes.{Fits, keeping, changed}
use Rattle.mx_upcall.specs.Control.{Control, with_registers}
use Rattle.mx_upcall.specs.Soundness.{IsPackableControl}
use Rattle.mx_upcall.specs.declared.controls.Change.{Change}
use Rattle.mx_line.specs.Fills.{IsFilling, IsAnew}
use Rattle.mx_line.specs.Operands.{IsGoodProgress, IsMemoryLine, IsPlaced, HasWalked, steps_in}
use Rattle.mx_line.specs.declared.asking.Called.{Called}
use Rattle.mx_line.specs.declared.asking.Called.TheVariants as called
use Rattle.mx_line.specs.declared.asking.End.{End}
use Rattle.mx_line.specs.declared.asking.Next as asking
use Rattle.mx_line.specs.declared.asking.Next.TheVariants as asks
use Rattle.mx_line.specs.declared.asking.Reference as asked
use Rattle.mx_line.specs.declared.at_work.LineAtWork.{LineAtWork}
use Rattle.mx_line.specs.declared.at_work.LineAtWork.TheVariants as at
use Rattle.mx_line.specs.declared.fills.Fill.{Fill}
use Rattle.mx_line.specs.declared.fills.Filled.{Filled}
use Rattle.mx_line.specs.declared.fills.Filled.TheVariants as filled
use Rattle.mx_line.specs.declared.operands.Onward.{Onward}
use Rattle.mx_line.specs.declared.operands.Onward.TheVariants as onward
use Rattle.mx_line.specs.declared.operands.Progress.{Progress}
use Rattle.mx_line.specs.declared.operands.Progress.TheVariants.{Before, Walking, AtLink, Waiting, Filling}

-- the reference that is meant
abbrev pub reference_in : asked.Reference → Reference
reference_in r = record { op = r.op; segno = r.segno; word = r.word; ring = r.ring; stores = r.stores }

-- a line that is a request has a call of its own, and no other has
abbrev pub own_call : Line → ℕ → Next
own_call (line.Ask request) ring = Calls ring request
own_call (line.Set word) ring = Nowhere
own_call (line.Epp n o) ring = Nowhere
own_call (line.Lda o) ring = Nowhere
own_call (line.Sta o) ring = Nowhere
own_call (line.Spri n o) ring = Nowhere
own_call line.Fetch ring = Nowhere
own_call (line.Call o) ring = Nowhere
own_call (line.Return o) ring = Nowhere

abbrev pub call_in : Line → ℕ → Called → Next
call_in l ring called.Own = own_call l ring
call_in l ring called.Resume = Calls ring ask.Resume
call_in l ring (called.Link segno word) = Calls ring (ask.Link segno word)

-- what a line that is no request may ask for where no write is due: a reference, that its link be snapped, or its end
abbrev pub IsPlain : Line → asking.Next → Type 0
IsPlain l (asks.Asks r) = IsMemoryLine l
IsPlain l (asks.Fills r) = ⊥
IsPlain l (asks.Calls ring called.Own) = ⊥
IsPlain l (asks.Calls ring called.Resume) = ⊥
IsPlain l (asks.Calls ring (called.Link segno word)) = IsMemoryLine l
IsPlain l (asks.Ends end) = Unit {0}
IsPlain l asks.Nowhere = ⊥

-- what is meant by what a line is said to ask for
abbrev pub meant : Control → Line → asking.Next → Next
meant g l (asks.Asks r) = Asks (reference_in r)
meant g l (asks.Fills r) = Fills (reference_in r)
meant g l (asks.Calls ring called) = call_in l ring called
meant g l (asks.Ends end) = Ends end.ends (changed g end.after)
meant g l asks.Nowhere = Nowhere

-- a write that is asked for has a value
abbrev pub IsStorableBy : Op → Option ℕ → Type 0
IsStorableBy op stores = op ≡ Write → IsSome stores

abbrev pub IsStorable : asking.Next → Type 0
IsStorable (asks.Asks r) = IsStorableBy r.op r.stores
IsStorable (asks.Fills r) = IsStorableBy r.op r.stores
IsStorable (asks.Calls ring called) = Unit {0}
IsStorable (asks.Ends end) = Unit {0}
IsStorable asks.Nowhere = Unit {0}

-- since its last call a line has come so far: it is a `block`, and its process was told to wait; or a write is next that
-- the reply asks for; or the line begins anew
abbrev pub IsAnswered : Control → Line → journaled.Entry → List Judged → Progress → Type 0
IsAnswered g l entry filled Waiting =
    (entry.reply ≡ reply.Waiting) × (entry.request ≡ ask.Block) × (l ≡ line.Ask ask.Block)
IsAnswered g l entry filled (Filling fill) = IsFilling g l entry filled fill
IsAnswered g l entry filled Before = IsAnew g l entry filled
IsAnswered g l entry filled (Walking walk) = ⊥
IsAnswered g l entry filled (AtLink place) = ⊥

-- A line has done this, and has come so far: its attempt has seen what its walk asked for, or it has made a call.
abbrev pub IsCome : Control → Line → Course → Progress → Type 0
IsCome g l (Attempt seen) progress = IsPlaced g l seen progress
IsCome g l (Answer entry filled) progress = IsAnswered g l entry filled progress

-- no write is due
abbrev pub IsFree : Progress → Type 0
IsFree progress = (fill : Fill) → progress ≡ Filling fill → ⊥

-- after all that it has done a line stands here: it has come so far, or it asks for its end, or for nothing
abbrev pub StandsAt : Control → Line → Course → LineAtWork → Type 0
StandsAt g l course (at.At progress) = IsCome g l course progress
StandsAt g l course (at.Ended end) = next g l course ≡ Ends end.ends (changed g end.after)
StandsAt g l course at.Nowhere = next g l course ≡ Nowhere

-- An event that answers leads on: from each course at which the line stands before, to one at which it stands after.
abbrev pub IsTaken : Control → Line → Setting → Event2 → LineAtWork → LineAtWork → Type 0
IsTaken g l setting event before after = (course later : Course) → StandsAt g l course before
    → IsEvent setting (next g l course) course event later → StandsAt g l later after

-- what a line leaves can be stored
pub record IsGoodEnd (g : Control) (end : End) : Type 0 where
  pub fits : Fits g.gates end.after.gates
  pub packable : IsPackableControl (changed g end.after)

abbrev pub IsGoodWork : Control → LineAtWork → Type 0
IsGoodWork g (at.At progress) = IsGoodProgress g.registers progress
IsGoodWork g (at.Ended end) = IsGoodEnd g end
IsGoodWork g at.Nowhere = Unit {0}

-- a line that goes on has fewer events before it than so many
abbrev pub IsWithin : ℕ → LineAtWork → Type 0
IsWithin steps (at.At progress) = steps_in progress < steps
IsWithin steps (at.Ended end) = Unit {0}
IsWithin steps at.Nowhere = Unit {0}

-- it does not go on
abbrev pub IsOver : LineAtWork → Type 0
IsOver (at.At progress) = ⊥
IsOver (at.Ended end) = Unit {0}
IsOver at.Nowhere = Unit {0}

abbrev pub IsGoodNext : Control → asking.Next → Type 0
IsGoodNext g (asks.Ends end) = IsGoodEnd g end
IsGoodNext g (asks.Asks r) = Unit {0}
IsGoodNext g (asks.Fills r) = Unit {0}
IsGoodNext g (asks.Calls ring called) = Unit {0}
IsGoodNext g asks.Nowhere = Unit {0}

-- it asks for something
abbrev pub IsKnown : LineAtWork → Type 0
IsKnown (at.At progress) = Unit {0}
IsKnown (at.Ended end) = Unit {0}
IsKnown at.Nowhere = ⊥

-- the element is the reference for which the line asks, judged on this descriptor
pub record IsMet (g : Control) (l : Line) (work : LineAtWork) (e : Element) (d : Descriptor) : Type 0 where
  pub course : Course
  pub stands : StandsAt g l course work
  pub asked : Reference
  pub asks : next g l course ≡ Asks asked
  pub right : IsJudged asked d e

-- which lines read a word at their target, store one there, or go on there
abbrev pub IsReader : Line → Type 0
IsReader (line.Lda o) = Unit {0}
IsReader line.Fetch = Unit {0}
IsReader _ = ⊥

abbrev pub IsWriter : Line → Type 0
IsWriter (line.Sta o) = Unit {0}
IsWriter (line.Spri n o) = Unit {0}
IsWriter _ = ⊥

abbrev pub IsMover : Line → Type 0
IsMover (line.Call o) = Unit {0}
IsMover (line.Return o) = Unit {0}
IsMover _ = ⊥

abbrev pub IsNearer : LineAtWork → LineAtWork → Type 0
IsNearer (at.At progress) after = IsWithin (steps_in progress) after
IsNearer (at.Ended end) after = Unit {0}
IsNearer at.Nowhere after = Unit {0}

-- an element and the descriptor on which it was judged
abbrev pub beside : Element → Descriptor → Judged
beside e d = record { element = e; desc = d }

-- a line asks for its end so, or for nothing
abbrev pub IsSaid : Control → Next → LineAtWork → Type 0
IsSaid g asks (at.At progress) = ⊥
IsSaid g asks (at.Ended end) = asks ≡ Ends end.ends (changed g end.after)
IsSaid g asks at.Nowhere = asks ≡ Nowhere

-- an attempt has seen this, and has come so far or to its end
abbrev pub HasSeen : Control → Line → List Judged → LineAtWork → Type 0
HasSeen g l seen (at.At progress) = HasWalked g l seen progress
HasSeen g l seen (at.Ended end) = attempt g l seen ≡ Ends end.ends (changed g end.after)
HasSeen g l seen at.Nowhere = attempt g l seen ≡ Nowhere

-- the end with a result, the registers and gates as they are
abbrev pub end_of : Result2 → Control → End
end_of ends g = record { ends = ends; after = keeping g.registers }

abbrev pub ended : Result2 → Control → LineAtWork
ended ends g = at.Ended (end_of ends g)

-- what the end of a line that does not move the process leaves in the registers: the accumulator has the word that was read
abbrev pub left_in : Result2 → Registers → Registers
left_in result.Done registers = registers
left_in (result.A value) registers = record registers { a = value }
left_in (result.Pr n pointer) registers = registers
left_in (result.Moved ring procedure) registers = registers
left_in (result.Denied denial) registers = registers
left_in result.Refused registers = registers
left_in result.HistoryFull registers = registers

-- a line ends so, or has done what no line does
abbrev pub ending : Control → Option Result2 → Next
ending g None = Nowhere
ending g (Some ends) = Ends ends (with_registers g (left_in ends g.registers))

abbrev pub left : Control → Option Result2 → LineAtWork
left g None = at.Nowhere
left g (Some ends) = at.Ended (record { ends = ends; after = keeping (left_in ends g.registers) })

-- by its reference at its target a line ends so, wherever that is
abbrev pub EndsAt : Line → Outcome → Result2 → Type 0
EndsAt l outcome ends = (g : Control) (target : PointerParts) (d : Descriptor)
    → after_target g l target d outcome ≡ ending g (Some ends)

-- no link is to be snapped by it
abbrev pub IsUnlinked : Request → Type 0
IsUnlinked request = (segno word : ℕ) → request ≡ ask.Link segno word → ⊥

-- by this reply to its own request, which is no link to be snapped, a line ends so, whatever the request
abbrev pub EndsByReply : Control → Reply → Result2 → Type 0
EndsByReply g given ends = (own : Request) (entry : journaled.Entry) → IsUnlinked entry.request → entry.reply ≡ given
    → StandsAt g (line.Ask own) (Answer entry []) (left g (Some ends))

-- so it ends by this element, which it has on some descriptor
abbrev pub IsTakenTo : Control → Line → Element → LineAtWork → LineAtWork → Type 0
IsTakenTo g l e before after = (d : Descriptor) (setting : Setting) → setting.descriptor e ≡ d
    → IsTaken g l setting (Core (Seen e)) before after

-- the process goes on so
abbrev pub moved_on : Change → LineAtWork
moved_on after =
    at.Ended (record { ends = result.Moved after.registers.ring after.registers.procedure; after = after })

-- so the line asks for its end
abbrev pub moving : Control → Change → Next
moving g after = Ends (result.Moved after.registers.ring after.registers.procedure) (changed g after)

-- what an indirect word came to
abbrev pub standing : Onward → LineAtWork
standing (onward.More progress) = at.At progress
standing (onward.End ends after) = at.Ended (record { ends = ends; after = keeping after })

-- where the line stands after a write that a reply asked for
abbrev pub after_writing : Control → Filled → LineAtWork
after_writing g (filled.More fill) = at.At (Filling fill)
after_writing g filled.Anew = at.At Before
after_writing g filled.Done = ended result.Done g
after_writing g filled.Nowhere = at.Nowhere

-- the writes that a reply asks for come first
abbrev pub filling_or : LineAtWork → Option Fill → LineAtWork
filling_or after None = after
filling_or after (Some fill) = at.At (Filling fill)

-- a section of which no word was stored yet: it has one at least
abbrev pub begun : Option ℕ → Option (ℕ × ℕ)
begun None = None
begun (Some section) = Some (section, 1)

-- an event leaves exactly one course
abbrev pub OneCourseLaw : Type 0
OneCourseLaw = (setting : Setting) (asks : Next) (before : Course) (event : Event2) (after other : Course)
    → IsEvent setting asks before event after → IsEvent setting asks before event other → other ≡ after
