-- Helpers: what the line of a process asks for, and what an element makes of it.
use Rattle.std.specs.Prelude.{◌≡◌, ℕ, IsOk, Option, Some, None}
use Rattle.mx_call.specs.Transfers.{return_judgement}
use Rattle.mx_ptr.specs.Pointers.{PointerParts}
use Rattle.mx_sdw.specs.Judging.{judgement}
use Rattle.mx_upcall.specs.Changes.{changed}
use Rattle.mx_upcall.specs.Control.{Control, calling, after_call, returning, after_return}
use Rattle.mx_upcall.specs.declared.controls.Change.{Change}
use Rattle.mx_core.specs.declared.elements.Element.{Element}
use Rattle.mx_core.specs.declared.elements.Event.TheVariants.{Seen}
use Rattle.mx_transcript.specs.Asking.{next}
use Rattle.mx_transcript.specs.Courses.{Course}
use Rattle.mx_request.specs.declared.replies.Reply.{Reply}
use Rattle.mx_state.specs.declared.journal.Entry as journaled
use Rattle.mx_transcript.specs.Settings.{Setting, entry_at}
use Rattle.mx_transcript.specs.declared.transcripts.Event2.TheVariants.{Core, Entry}
use Rattle.mx_transcript.specs.declared.transcripts.Result2.{Result2}
use Rattle.mx_script.specs.declared.lines.Line.{Line}
use Rattle.mx_script.specs.declared.lines.Line.TheVariants as line
use Rattle.mx_sdw.specs.Descriptors.{Descriptor}
use Rattle.mx_line.specs.AtWork.{IsCome, IsFree, IsGoodNext, IsGoodWork, IsNearer, IsPlain, IsStorable, IsTaken, IsTakenTo, left, meant, moved_on}
use Rattle.mx_line.specs.Fills.{IsNoRequest}
use Rattle.mx_line.specs.Operands.{IsMemoryLine}
use Rattle.mx_line.specs.declared.asking.Next as asking
use Rattle.mx_line.specs.declared.asking.Next.TheVariants as asks
use Rattle.mx_line.specs.declared.asking.Reference as asked
use Rattle.mx_line.specs.declared.at_work.LineAtWork.{LineAtWork}
use Rattle.mx_line.specs.declared.at_work.LineAtWork.TheVariants as works
use Rattle.mx_line.specs.declared.moves.Going.{Going}
use Rattle.mx_line.specs.declared.moves.Going.TheVariants.{Calls, Returns}
use Rattle.mx_line.specs.declared.operands.Progress.{Progress}
use Rattle.mx_line.specs.declared.processes.Process.{Process}

-- what the line of a process asks for
pub record IsAsking (p : Process) (l : Line) (wanted : asking.Next) : Type 0 where
  pub is : (course : Course) → IsCome p.control l course p.progress → next p.control l course ≡ meant p.control l wanted
  pub storable : IsStorable wanted
  pub good : IsGoodNext p.control wanted
  pub plain : (course : Course) → IsCome p.control l course p.progress → IsNoRequest l → IsFree p.progress → IsPlain l wanted

-- it asks for this reference to memory
pub record IsReferring (p : Process) (l : Line) (r : asked.Reference) : Type 0 where
  pub memory : (course : Course) → IsCome p.control l course p.progress → IsMemoryLine l
  pub says : IsAsking p l (asks.Asks r)

-- its line at work ends so by this element, which it has on some descriptor
pub record HasPlainEnd (p : Process) (l : Line) (e : Element) (ends : Result2) : Type 0 where
  pub taken : IsTakenTo p.control l e (works.At p.progress) (left p.control (Some ends))
  pub good : IsGoodWork p.control (left p.control (Some ends))

-- its line at work ends so by this reply to the call for which it asks
pub record HasPlainReply (p : Process) (l : Line) (given : Reply) (ends : Result2) : Type 0 where
  pub taken : (setting : Setting) (number : ℕ) (entry : journaled.Entry) → entry_at setting.journal number ≡ Some entry
      → entry.reply ≡ given → IsTaken p.control l setting (Entry number) (works.At p.progress) (left p.control (Some ends))
  pub good : IsGoodWork p.control (left p.control (Some ends))

-- what a line that is granted its reference at its target goes on at
abbrev pub going_at : Line → PointerParts → Option Going
going_at (line.Call operand) target = Some (Calls target)
going_at (line.Return operand) target = Some (Returns target)
going_at _ target = None

-- it is granted, judged where it is asked
abbrev pub IsGrantedAt : Control → Going → Descriptor → Type 0
IsGrantedAt g (Calls target) d = IsOk (judgement d (calling g target) target.ring target.word)
IsGrantedAt g (Returns target) d = IsOk (return_judgement (returning g target) d)

-- the registers and gates after it
abbrev pub gone : Control → Going → Descriptor → Control
gone g (Calls target) d = after_call g target d
gone g (Returns target) d = after_return g target

-- its line at work ends by this element on this descriptor: its call or return was granted, and the process goes on so
pub record HasPlainMove (g : Control) (l : Line) (progress : Progress) (e : Element) (d : Descriptor) (going : Going) : Type 0 where
  pub granted : IsGrantedAt g going d
  pub after : Change
  pub is : changed g after ≡ gone g going d
  pub taken : (setting : Setting) → setting.descriptor e ≡ d
      → IsTaken g l setting (Core (Seen e)) (works.At progress) (moved_on after)
  pub good : IsGoodWork g (moved_on after)

-- what an element makes of the line at work
pub record Takes (g : Control) (l : Line) (progress : Progress) (e : Element) (d : Descriptor) (work : LineAtWork) : Type 0 where
  pub taken : (setting : Setting) → setting.descriptor e ≡ d → IsTaken g l setting (Core (Seen e)) (works.At progress) work
  pub good : IsGoodWork g work
  pub nearer : IsNearer (works.At progress) work
