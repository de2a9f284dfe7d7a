-- The end of a line that does not move to another procedure, and that no line asks to end with a full journal.
use Rattle.std.proofs.Common.{◌≡◌, ℕ, ◌≤◌, Bool, true, false, List, [], ◌∷◌, Option, Some, None, if◌then◌else◌, refl, ap, sym, subst, arith}
use Rattle.std.specs.List.{slice_get}
use Rattle.std.specs.Option.{option_map}
use Rattle.mx_sdw.specs.Descriptors.{Descriptor}
use Rattle.mx_sdw.specs.declared.denials.Denial.{Denial}
use Rattle.mx_ptr.specs.Pointers.{PointerParts, parts_of}
use Rattle.mx_effring.specs.Chains as chains
use Rattle.mx_effring.specs.Chains.{effective_ring, place_of, read_on}
use Rattle.mx_effring.specs.Walks.{wanted, refuses}
use Rattle.mx_effring.specs.declared.walks.Stuck.{Stuck}
use Rattle.mx_effring.specs.declared.walks.Stuck.TheVariants as stuck
use Rattle.mx_effring.specs.declared.walks.Want.{Want}
use Rattle.mx_effring.specs.declared.walks.Want.TheVariants.{Word, Done}
use Rattle.mx_effring.proofs.ChainLaws.{never_below_current}
use Rattle.mx_call.specs.Loading.{loaded}
use Rattle.mx_call.specs.Registers.{Registers, IsSound, way_back}
use Rattle.mx_upcall.specs.Control.{Control, with_registers}
use Rattle.mx_call.proofs.RegisterLaws.{loaded_stays_sound}
use Rattle.mx_core.specs.declared.elements.Outcome.{Outcome}
use Rattle.mx_core.specs.declared.elements.Outcome.TheVariants as outcome
use Rattle.mx_request.specs.declared.replies.Reply.{Reply}
use Rattle.mx_request.specs.declared.replies.Reply.TheVariants as reply
use Rattle.mx_request.specs.declared.requests.Request.{Request}
use Rattle.mx_state.specs.declared.journal.Entry as journaled
use Rattle.mx_script.specs.declared.lines.Line.{Line}
use Rattle.mx_script.specs.declared.lines.Line.TheVariants.{Ask, Set, Epp, Lda, Sta, Spri, Fetch, Call, Return}
use Rattle.mx_transcript.specs.declared.transcripts.Result2.{Result2}
use Rattle.mx_transcript.specs.declared.transcripts.Result2.TheVariants as result
use Rattle.mx_transcript.proofs.AwaitLaws.{awaits_no_end}
use Rattle.mx_transcript.specs.Asking.{next, replied, attempts, linked, answered, first_due, result_of}
use Rattle.mx_transcript.specs.Attempts.{wants, taken, after_word, after_seen, along, attempting}
use Rattle.mx_transcript.specs.Courses.{Course, Attempt, Answer, Judged}
use Rattle.mx_transcript.specs.Falls.{printed_ring}
use Rattle.mx_transcript.specs.Filling.{due}
use Rattle.mx_transcript.specs.Next.{Next, Reference, Ends}
use Rattle.mx_transcript.specs.Operands.{walk_of, walk_from, base_of}
use Rattle.mx_transcript.specs.Rings.{IsSoundControl}
use Rattle.mx_transcript.specs.Targets.{at_target, after_target, spri_at}

-- an end that leaves the ring, keeps sound registers and gates sound, and is not `history_full`
pub record IsEnded (g : Control) (ends : Result2) (now : Control) : Type 0 where
  pub sound : IsSoundControl g → IsSoundControl now
  pub ring : now.registers.ring ≡ g.registers.ring
  pub printed : printed_ring g.registers.ring ends ≡ g.registers.ring
  pub asked : ends ≡ result.HistoryFull → ⊥

pub done_ends : (g : Control) → IsEnded g result.Done g
done_ends g = record { sound = λ s. s; ring = refl; printed = refl; asked = λ e. cc }

refused_ends : (g : Control) → IsEnded g result.Refused g
refused_ends g = record { sound = λ s. s; ring = refl; printed = refl; asked = λ e. cc }

with_a : (g : Registers) (word : ℕ) → IsSound g → IsSound (record g { a = word })
with_a g word s = record { eight = s.eight; above = s.above; plain = s.plain; procedure = s.procedure }

-- the gates stay, with sound registers
with_sound : (g : Control) (registers : Registers) → (IsSound g.registers → IsSound registers) → IsSoundControl g
    → IsSoundControl (with_registers g registers)
with_sound g registers keeps s = record { registers = keeps s.registers; gates = s.gates }

-- another word in the accumulator
pub accumulated : (g : Control) (word : ℕ) (ends : Result2) → printed_ring g.registers.ring ends ≡ g.registers.ring
    → (ends ≡ result.HistoryFull → ⊥) → IsEnded g ends (with_registers g (record g.registers { a = word }))
accumulated g word ends printed asked = record {
  sound = with_sound g (record g.registers { a = word }) (with_a g.registers word);
  ring = refl;
  printed = printed;
  asked = asked;
}

-- the same end
pub same_end : (g left now : Control) (given ends : Result2) → IsEnded g given left → Ends given left ≡ Ends ends now
    → IsEnded g ends now
same_end g left now given ends is e =
    let result : given ≡ ends = cc in
    let after : left ≡ now = cc in
    subst (λ (r : Control). IsEnded g ends r) after (subst (λ (r : Result2). IsEnded g r left) result is)

pub denied_ends : (g : Control) (denial : Denial) → IsEnded g (result.Denied denial) g
denied_ends g denial = record { sound = λ s. s; ring = refl; printed = refl; asked = λ e. cc }

-- where a walk is done, its target has the effective ring and no further bit
done_at : (further : Bool) (place target : PointerParts) (ring : ℕ)
    → (if further then Word place.segno place.word ring else Done (record place { ring = ring; further = false }))
    ≡ Done target
    → (target.ring ≡ ring) × (target.further ≡ false)
done_at true place target ring e = absurd cc
done_at false place target ring e =
    let same : record place { ring = ring; further = false } ≡ target = cc in
    (sym (ap (λ (p : PointerParts). p.ring) same), sym (ap (λ (p : PointerParts). p.further) same))

pub high_target : (g : Registers) (walk : chains.Operand) (target : PointerParts) → walk.current ≡ g.ring
    → wanted walk ≡ Done target → (g.ring ≤ target.ring) × (target.further ≡ false)
high_target g walk target current e =
    let d = done_at (place_of walk).further (place_of walk) target (effective_ring walk) e in
    let low = never_below_current walk in
    let ring = d.0 in
    (omega arith, d.1)

target_ends : (g : Control) (line : Line) (target : PointerParts) (ends : Result2) (now : Control)
    → g.registers.ring ≤ target.ring → target.further ≡ false → at_target g line target ≡ Ends ends now
    → IsEnded g ends now
target_ends g (Ask request) target ends now high plain e = absurd cc
target_ends g (Set word) target ends now high plain e = absurd cc
target_ends g (Epp n o) target ends now high plain e =
    same_end g (with_registers g (loaded g.registers n target)) now (result.Pr n target) ends (record {
      sound = with_sound g (loaded g.registers n target) (λ s. loaded_stays_sound g.registers n target s high plain);
      ring = refl;
      printed = refl;
      asked = λ e. cc;
    }) e
target_ends g (Lda o) target ends now high plain e = absurd cc
target_ends g (Sta o) target ends now high plain e = absurd cc
target_ends g (Spri n o) target ends now high plain e = absurd (never (slice_get g.registers.pr n) e)
  where
    never : (p : Option PointerParts) → spri_at target p ≡ Ends ends now → ⊥
    never None h = cc
    never (Some p) h = cc
target_ends g Fetch target ends now high plain e = absurd cc
target_ends g (Call o) target ends now high plain e = absurd cc
target_ends g (Return o) target ends now high plain e = absurd cc

-- what a line asks for at a place of its walk
pub wants_ends : (g : Control) (line : Line) (walk : chains.Operand) (w : Want) (ends : Result2) (now : Control)
    → walk.current ≡ g.registers.ring → wanted walk ≡ w → wants g line w ≡ Ends ends now → IsEnded g ends now
wants_ends g line walk (Word segno word ring) ends now current is e = absurd cc
wants_ends g line walk (Done target) ends now current is e =
    let high = high_target g.registers walk target current is in target_ends g line target ends now high.0 high.1 e

-- what a line's own reference ends with
after_never : (g : Control) (line : Line) (target : PointerParts) (d : Descriptor) (came : Outcome) (now : Control)
    → after_target g line target d came ≡ Ends result.HistoryFull now → ⊥
after_never g line target d (outcome.Denied denial) now e = cc
after_never g (Lda o) target d (outcome.Read value writer stamp) now e = cc
after_never g (Sta o) target d (outcome.Written value) now e = cc
after_never g (Spri n o) target d (outcome.Written value) now e = cc
after_never g Fetch target d (outcome.Read value writer stamp) now e = cc
after_never g (Call o) target d (outcome.Entered ring) now e = cc
after_never g (Return o) target d (outcome.Entered ring) now e = cc
after_never _ _ _ _ _ _ e = cc

-- an indirect word that ends the line, or leads on
taken_never : (g : Control) (segno word ring : ℕ) (why : Option Stuck) (onward : Next) (now : Control)
    → (onward ≡ Ends result.HistoryFull now → ⊥) → taken g segno word ring why onward ≡ Ends result.HistoryFull now → ⊥
taken_never g segno word ring None onward now on e = on e
taken_never g segno word ring (Some stuck.Link) onward now on e = cc
taken_never g segno word ring (Some stuck.NotPointer) onward now on e = cc
taken_never g segno word ring (Some stuck.Limit) onward now on e = cc

word_never : (g : Control) (walk : chains.Operand) (segno word ring : ℕ) (came : Outcome) (onward : ℕ → Next)
    (now : Control) → ((value : ℕ) → onward value ≡ Ends result.HistoryFull now → ⊥)
    → after_word g walk segno word ring came onward ≡ Ends result.HistoryFull now → ⊥
word_never g walk segno word ring (outcome.Read value writer stamp) onward now on e =
    taken_never g segno word ring (refuses walk value) (onward value) now (on value) e
word_never g walk segno word ring (outcome.Denied denial) onward now on e = cc
word_never g walk segno word ring (outcome.Written value) onward now on e = cc
word_never g walk segno word ring (outcome.Entered entered) onward now on e = cc

seen_never : (g : Control) (line : Line) (walk : chains.Operand) (j : Judged) (w : Want) (onward : ℕ → Next)
    (now : Control) → ((value : ℕ) → onward value ≡ Ends result.HistoryFull now → ⊥)
    → after_seen g line walk j w onward ≡ Ends result.HistoryFull now → ⊥
seen_never g line walk j (Word segno word ring) onward now on e =
    word_never g walk segno word ring j.element.outcome onward now on e
seen_never g line walk j (Done target) onward now on e = after_never g line target j.desc j.element.outcome now e

along_never : (g : Control) (line : Line) (walk : chains.Operand) (seen : List Judged) (now : Control)
    → walk.current ≡ g.registers.ring → along g line walk seen ≡ Ends result.HistoryFull now → ⊥
along_never g line walk [] now current e =
    (wants_ends g line walk (wanted walk) result.HistoryFull now current refl e).asked refl
along_never g line walk (j ∷ seen) now current e =
    seen_never g line walk j (wanted walk)
    (λ value. along g line (read_on walk (parts_of value) j.desc.brackets.r1) seen) now
    (λ value. along_never g line (read_on walk (parts_of value) j.desc.brackets.r1) seen now current) e

-- a walk begins in the current ring
begins_current : (g : Registers) (indirect : Bool) (base : Option PointerParts) (walk : chains.Operand)
    → option_map (walk_from g indirect) base ≡ Some walk → walk.current ≡ g.ring
begins_current g indirect None walk e = absurd cc
begins_current g indirect (Some p) walk e =
    let same : walk_from g indirect p ≡ walk = cc in sym (ap (λ (w : chains.Operand). w.current) same)

pub walk_current : (g : Registers) (line : Line) (walk : chains.Operand) → walk_of g line ≡ Some walk
    → walk.current ≡ g.ring
walk_current g (Ask request) walk e = absurd cc
walk_current g (Set word) walk e = absurd cc
walk_current g (Epp n o) walk e = begins_current g o.indirect (base_of g o.base o.word) walk e
walk_current g (Lda o) walk e = begins_current g o.indirect (base_of g o.base o.word) walk e
walk_current g (Sta o) walk e = begins_current g o.indirect (base_of g o.base o.word) walk e
walk_current g (Spri n o) walk e = begins_current g o.indirect (base_of g o.base o.word) walk e
walk_current g Fetch walk e = begins_current g false (Some (way_back g)) walk e
walk_current g (Call o) walk e = begins_current g o.indirect (base_of g o.base o.word) walk e
walk_current g (Return o) walk e = begins_current g o.indirect (base_of g o.base o.word) walk e

attempt_never : (g : Control) (line : Line) (seen : List Judged) (walk : Option chains.Operand) (now : Control)
    → walk_of g.registers line ≡ walk → attempting g line seen walk ≡ Ends result.HistoryFull now → ⊥
attempt_never g line seen None now is e = cc
attempt_never g line seen (Some walk) now is e = along_never g line walk seen now (walk_current g.registers line walk is) e

set_ends : (g : Control) (word : ℕ) (ends : Result2) (now : Control)
    → Ends result.Done (with_registers g (record g.registers { a = word })) ≡ Ends ends now → IsEnded g ends now
set_ends g word ends now e =
    same_end g (with_registers g (record g.registers { a = word })) now result.Done ends
    (accumulated g word result.Done refl (λ e. cc)) e

-- an attempt that has seen nothing
none_ends : (g : Control) (line : Line) (walk : Option chains.Operand) (ends : Result2) (now : Control)
    → walk_of g.registers line ≡ walk → attempting g line [] walk ≡ Ends ends now → IsEnded g ends now
none_ends g line None ends now is e = absurd cc
none_ends g line (Some walk) ends now is e =
    wants_ends g line walk (wanted walk) ends now (walk_current g.registers line walk is) refl e

pub first_ends : (g : Control) (line : Line) (ends : Result2) (now : Control)
    → attempts g line [] ≡ Ends ends now → IsEnded g ends now
first_ends g (Ask request) ends now e = absurd cc
first_ends g (Set word) ends now e = set_ends g word ends now e
first_ends g (Epp n o) ends now e = none_ends g (Epp n o) (walk_of g.registers (Epp n o)) ends now refl e
first_ends g (Lda o) ends now e = none_ends g (Lda o) (walk_of g.registers (Lda o)) ends now refl e
first_ends g (Sta o) ends now e = none_ends g (Sta o) (walk_of g.registers (Sta o)) ends now refl e
first_ends g (Spri n o) ends now e = none_ends g (Spri n o) (walk_of g.registers (Spri n o)) ends now refl e
first_ends g Fetch ends now e = none_ends g Fetch (walk_of g.registers Fetch) ends now refl e
first_ends g (Call o) ends now e = none_ends g (Call o) (walk_of g.registers (Call o)) ends now refl e
first_ends g (Return o) ends now e = none_ends g (Return o) (walk_of g.registers (Return o)) ends now refl e

reply_ends : (g : Control) (given : Reply) → IsEnded g (result_of given) g
reply_ends g (reply.Refused why) = refused_ends g
reply_ends g reply.Done = done_ends g
reply_ends g (reply.Status status) = done_ends g
reply_ends g (reply.Names names) = done_ends g
reply_ends g (reply.Segno known) = done_ends g
reply_ends g (reply.Linked segno word fresh linkage) = done_ends g
reply_ends g reply.Sent = done_ends g
reply_ends g (reply.Message sender word) = done_ends g
reply_ends g reply.Nobody = done_ends g
reply_ends g reply.Waiting = done_ends g

replied_ends : (g : Control) (request : Request) (given : Reply) (ends : Result2) (now : Control)
    → replied g request given ≡ Ends ends now → IsEnded g ends now
replied_ends g request reply.Waiting ends now e = absurd (awaits_no_end g request ends now e)
replied_ends g request (reply.Linked segno word fresh linkage) ends now e = absurd cc
replied_ends g request (reply.Refused why) ends now e = same_end g g now _ ends (reply_ends g (reply.Refused why)) e
replied_ends g request reply.Done ends now e = same_end g g now _ ends (reply_ends g reply.Done) e
replied_ends g request (reply.Status status) ends now e = same_end g g now _ ends (reply_ends g (reply.Status status)) e
replied_ends g request (reply.Names names) ends now e = same_end g g now _ ends (reply_ends g (reply.Names names)) e
replied_ends g request (reply.Segno known) ends now e = same_end g g now _ ends (reply_ends g (reply.Segno known)) e
replied_ends g request reply.Sent ends now e = same_end g g now _ ends (reply_ends g reply.Sent) e
replied_ends g request (reply.Message sender word) ends now e = same_end g g now _ ends (reply_ends g (reply.Message sender word)) e
replied_ends g request reply.Nobody ends now e = same_end g g now _ ends (reply_ends g reply.Nobody) e

link_ends : (g : Control) (line : Line) (given : Reply) (ends : Result2) (now : Control)
    → linked g line given ≡ Ends ends now → IsEnded g ends now
link_ends g line (reply.Refused why) ends now e = same_end g g now result.Refused ends (refused_ends g) e
link_ends g line (reply.Linked segno word fresh linkage) ends now e = first_ends g line ends now e
link_ends g line reply.Done ends now e = absurd cc
link_ends g line (reply.Status status) ends now e = absurd cc
link_ends g line (reply.Names names) ends now e = absurd cc
link_ends g line (reply.Segno known) ends now e = absurd cc
link_ends g line reply.Sent ends now e = absurd cc
link_ends g line (reply.Message sender word) ends now e = absurd cc
link_ends g line reply.Nobody ends now e = absurd cc
link_ends g line reply.Waiting ends now e = absurd cc

answer_ends : (g : Control) (line : Line) (request : Request) (given : Reply) (ends : Result2) (now : Control)
    → answered g line request given ≡ Ends ends now → IsEnded g ends now
answer_ends g (Ask asked) request given ends now e = replied_ends g request given ends now e
answer_ends g (Set word) request given ends now e = absurd cc
answer_ends g (Epp n o) request given ends now e = link_ends g (Epp n o) given ends now e
answer_ends g (Lda o) request given ends now e = link_ends g (Lda o) given ends now e
answer_ends g (Sta o) request given ends now e = link_ends g (Sta o) given ends now e
answer_ends g (Spri n o) request given ends now e = link_ends g (Spri n o) given ends now e
answer_ends g Fetch request given ends now e = link_ends g Fetch given ends now e
answer_ends g (Call o) request given ends now e = link_ends g (Call o) given ends now e
answer_ends g (Return o) request given ends now e = link_ends g (Return o) given ends now e

due_ends : (g : Control) (line : Line) (request : Request) (given : Reply) (write : Option Reference) (ends : Result2)
    (now : Control) → first_due write (answered g line request given) ≡ Ends ends now → IsEnded g ends now
due_ends g line request given None ends now e = answer_ends g line request given ends now e
due_ends g line request given (Some reference) ends now e = absurd cc

-- after a call, and the writes since
pub since_ends : (g : Control) (line : Line) (entry : journaled.Entry) (filled : List Judged) (ends : Result2)
    (now : Control) → next g line (Answer entry filled) ≡ Ends ends now → IsEnded g ends now
since_ends g line entry filled ends now e =
    due_ends g line entry.request entry.reply (due entry filled) ends now e

-- no line asks for an end with `history_full`
attempts_never : (g : Control) (line : Line) (seen : List Judged) (now : Control)
    → attempts g line seen ≡ Ends result.HistoryFull now → ⊥
attempts_never g (Ask request) seen now e = cc
attempts_never g (Set word) seen now e = (set_ends g word result.HistoryFull now e).asked refl
attempts_never g (Epp n o) seen now e = attempt_never g (Epp n o) seen (walk_of g.registers (Epp n o)) now refl e
attempts_never g (Lda o) seen now e = attempt_never g (Lda o) seen (walk_of g.registers (Lda o)) now refl e
attempts_never g (Sta o) seen now e = attempt_never g (Sta o) seen (walk_of g.registers (Sta o)) now refl e
attempts_never g (Spri n o) seen now e = attempt_never g (Spri n o) seen (walk_of g.registers (Spri n o)) now refl e
attempts_never g Fetch seen now e = attempt_never g Fetch seen (walk_of g.registers Fetch) now refl e
attempts_never g (Call o) seen now e = attempt_never g (Call o) seen (walk_of g.registers (Call o)) now refl e
attempts_never g (Return o) seen now e = attempt_never g (Return o) seen (walk_of g.registers (Return o)) now refl e

pub next_never : (g : Control) (line : Line) (course : Course) (now : Control)
    → next g line course ≡ Ends result.HistoryFull now → ⊥
next_never g line (Answer entry filled) now e = (since_ends g line entry filled result.HistoryFull now e).asked refl
next_never g line (Attempt seen) now e = attempts_never g line seen now e
