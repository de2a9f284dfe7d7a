-- What a line asks for, by where it stands.
use Rattle.std.proofs.Common.{◌≡◌, ℕ, List, [], ◌++◌, length, Option, Some, None, refl, sym, ◌∙◌, ap, append-nil}
use Rattle.std.specs.List.{slice_get}
use Rattle.mx_effring.specs.Chains as chains
use Rattle.mx_effring.specs.Walks.{Reached, wanted, wanted_at}
use Rattle.mx_effring.specs.declared.walks.Want.{Want}
use Rattle.mx_effring.specs.declared.walks.Want.TheVariants as want
use Rattle.mx_ptr.specs.Pointers.{PointerParts}
use Rattle.mx_request.specs.Sections.{section_in}
use Rattle.mx_request.specs.declared.replies.Reply.{Reply}
use Rattle.mx_request.specs.declared.requests.Request.{Request}
use Rattle.mx_request.specs.declared.requests.Request.TheVariants.{Block, Link, Resume}
use Rattle.mx_script.specs.declared.lines.Line.{Line}
use Rattle.mx_script.specs.declared.lines.Line.TheVariants as line
use Rattle.mx_state.specs.declared.journal.Entry as journaled
use Rattle.mx_transcript.specs.Asking.{next, attempts, answered, awaits, replied, first_due}
use Rattle.mx_transcript.specs.Attempts.{wants, attempt, attempting}
use Rattle.mx_transcript.specs.Courses.{Course, Attempt, Answer, Judged}
use Rattle.mx_transcript.specs.Filling.{links_of, section_words, snapped}
use Rattle.mx_transcript.specs.Next.{Next, Reference, Asks, Fills, Calls, Nowhere}
use Rattle.mx_transcript.specs.Operands.{walk_of}
use Rattle.mx_transcript.specs.Targets.{at_target, spri_at}
use Rattle.mx_upcall.specs.Control.{Control}
use Rattle.mx_line.proofs.FillLaws.{asks_fill}
use Rattle.mx_line.specs.AtWork.{IsAnswered, IsCome}
use Rattle.mx_line.specs.Operands.{IsMemoryLine}
use Rattle.mx_line.specs.Fills.{write_of}
use Rattle.mx_line.specs.declared.fills.Fill.{Fill}
use Rattle.mx_line.specs.declared.operands.Place.{Place}
use Rattle.mx_line.specs.declared.operands.Progress.TheVariants.{Before, Walking, AtLink, Waiting, Filling}

-- a line that has a walk asks for what the walk does
pub walk_asks : (g : Control) (l : Line) (walk : chains.Operand) → walk_of g.registers l ≡ Some walk
    → attempts g l [] ≡ wants g l (wanted walk)
walk_asks g (line.Ask request) walk e = absurd cc
walk_asks g (line.Set word) walk e = absurd cc
walk_asks g (line.Epp n o) walk e = ap (attempting g (line.Epp n o) []) e
walk_asks g (line.Lda o) walk e = ap (attempting g (line.Lda o) []) e
walk_asks g (line.Sta o) walk e = ap (attempting g (line.Sta o) []) e
walk_asks g (line.Spri n o) walk e = ap (attempting g (line.Spri n o) []) e
walk_asks g line.Fetch walk e = ap (attempting g line.Fetch []) e
walk_asks g (line.Call o) walk e = ap (attempting g (line.Call o) []) e
walk_asks g (line.Return o) walk e = ap (attempting g (line.Return o) []) e

-- one that refers to memory and has none goes nowhere
pub no_walk_asks : (g : Control) (l : Line) → IsMemoryLine l → walk_of g.registers l ≡ None → attempts g l [] ≡ Nowhere
no_walk_asks g (line.Ask request) is e = absurd is
no_walk_asks g (line.Set word) is e = absurd is
no_walk_asks g (line.Epp n o) is e = ap (attempting g (line.Epp n o) []) e
no_walk_asks g (line.Lda o) is e = ap (attempting g (line.Lda o) []) e
no_walk_asks g (line.Sta o) is e = ap (attempting g (line.Sta o) []) e
no_walk_asks g (line.Spri n o) is e = ap (attempting g (line.Spri n o) []) e
no_walk_asks g line.Fetch is e = ap (attempting g line.Fetch []) e
no_walk_asks g (line.Call o) is e = ap (attempting g (line.Call o) []) e
no_walk_asks g (line.Return o) is e = ap (attempting g (line.Return o) []) e

-- what a line asks for at its target is no call, nor a write that a reply asks for
spri_calls : (target : PointerParts) (p : Option PointerParts) (ring : ℕ) (request : Request) → spri_at target p ≡ Calls ring request → ⊥
spri_calls target None ring request e = cc
spri_calls target (Some p) ring request e = cc

spri_fills : (target : PointerParts) (p : Option PointerParts) (r : Reference) → spri_at target p ≡ Fills r → ⊥
spri_fills target None r e = cc
spri_fills target (Some p) r e = cc

target_calls : (g : Control) (l : Line) (target : PointerParts) (ring : ℕ) (request : Request) → at_target g l target ≡ Calls ring request → ⊥
target_calls g (line.Ask own) target ring request e = cc
target_calls g (line.Set word) target ring request e = cc
target_calls g (line.Epp n o) target ring request e = cc
target_calls g (line.Lda o) target ring request e = cc
target_calls g (line.Sta o) target ring request e = cc
target_calls g (line.Spri n o) target ring request e = spri_calls target (slice_get g.registers.pr n) ring request e
target_calls g line.Fetch target ring request e = cc
target_calls g (line.Call o) target ring request e = cc
target_calls g (line.Return o) target ring request e = cc

target_fills : (g : Control) (l : Line) (target : PointerParts) (r : Reference) → at_target g l target ≡ Fills r → ⊥
target_fills g (line.Ask own) target r e = cc
target_fills g (line.Set word) target r e = cc
target_fills g (line.Epp n o) target r e = cc
target_fills g (line.Lda o) target r e = cc
target_fills g (line.Sta o) target r e = cc
target_fills g (line.Spri n o) target r e = spri_fills target (slice_get g.registers.pr n) r e
target_fills g line.Fetch target r e = cc
target_fills g (line.Call o) target r e = cc
target_fills g (line.Return o) target r e = cc

pub wants_calls : (g : Control) (l : Line) (w : Want) (ring : ℕ) (request : Request) → wants g l w ≡ Calls ring request → ⊥
wants_calls g l (want.Word segno word at) ring request e = cc
wants_calls g l (want.Done target) ring request e = target_calls g l target ring request e

wants_fills : (g : Control) (l : Line) (w : Want) (r : Reference) → wants g l w ≡ Fills r → ⊥
wants_fills g l (want.Word segno word at) r e = cc
wants_fills g l (want.Done target) r e = target_fills g l target r e

-- so an attempt that begins asks for no such write, and calls only by a request of its own
attempt_by : (g : Control) (l : Line) (w : Option chains.Operand) → Next
attempt_by g l None = Nowhere
attempt_by g l (Some walk) = wants g l (wanted walk)

begun_is : (g : Control) (l : Line) (w : Option chains.Operand) → IsMemoryLine l → walk_of g.registers l ≡ w → attempts g l [] ≡ attempt_by g l w
unfolding attempt_by
begun_is g l None is e = no_walk_asks g l is e
begun_is g l (Some walk) is e = walk_asks g l walk e

by_calls : (g : Control) (l : Line) (w : Option chains.Operand) (ring : ℕ) (request : Request) → attempt_by g l w ≡ Calls ring request → ⊥
unfolding attempt_by
by_calls g l None ring request e = cc
by_calls g l (Some walk) ring request e = wants_calls g l (wanted walk) ring request e

by_fills : (g : Control) (l : Line) (w : Option chains.Operand) (r : Reference) → attempt_by g l w ≡ Fills r → ⊥
unfolding attempt_by
by_fills g l None r e = cc
by_fills g l (Some walk) r e = wants_fills g l (wanted walk) r e

pub memory_calls : (g : Control) (l : Line) (ring : ℕ) (request : Request) → IsMemoryLine l → attempts g l [] ≡ Calls ring request → ⊥
memory_calls g l ring request is e =
    by_calls g l (walk_of g.registers l) ring request (sym (begun_is g l (walk_of g.registers l) is refl) ∙ e)

memory_fills : (g : Control) (l : Line) (r : Reference) → IsMemoryLine l → attempts g l [] ≡ Fills r → ⊥
memory_fills g l r is e = by_fills g l (walk_of g.registers l) r (sym (begun_is g l (walk_of g.registers l) is refl) ∙ e)

pub begun_fills : (g : Control) (l : Line) (r : Reference) → attempts g l [] ≡ Fills r → ⊥
begun_fills g (line.Ask own) r e = cc
begun_fills g (line.Set word) r e = cc
begun_fills g (line.Epp n o) r e = memory_fills g (line.Epp n o) r tt e
begun_fills g (line.Lda o) r e = memory_fills g (line.Lda o) r tt e
begun_fills g (line.Sta o) r e = memory_fills g (line.Sta o) r tt e
begun_fills g (line.Spri n o) r e = memory_fills g (line.Spri n o) r tt e
begun_fills g line.Fetch r e = memory_fills g line.Fetch r tt e
begun_fills g (line.Call o) r e = memory_fills g (line.Call o) r tt e
begun_fills g (line.Return o) r e = memory_fills g (line.Return o) r tt e

-- only a line that refers to memory asks for a reference
pub refers : (g : Control) (l : Line) (seen : List Judged) (r : Reference) → attempts g l seen ≡ Asks r → IsMemoryLine l
refers g (line.Ask own) seen r e = absurd cc
refers g (line.Set word) seen r e = absurd cc
refers g (line.Epp n o) seen r e = tt
refers g (line.Lda o) seen r e = tt
refers g (line.Sta o) seen r e = tt
refers g (line.Spri n o) seen r e = tt
refers g line.Fetch seen r e = tt
refers g (line.Call o) seen r e = tt
refers g (line.Return o) seen r e = tt

-- such a line asks for what its attempt does
pub memory_attempts : (g : Control) (l : Line) (seen : List Judged) → IsMemoryLine l → attempts g l seen ≡ attempt g l seen
memory_attempts g (line.Ask own) seen is = absurd is
memory_attempts g (line.Set word) seen is = absurd is
memory_attempts g (line.Epp n o) seen is = refl
memory_attempts g (line.Lda o) seen is = refl
memory_attempts g (line.Sta o) seen is = refl
memory_attempts g (line.Spri n o) seen is = refl
memory_attempts g line.Fetch seen is = refl
memory_attempts g (line.Call o) seen is = refl
memory_attempts g (line.Return o) seen is = refl

-- what a line asks for, by how far it has come
pub before_asks : (g : Control) (l : Line) (course : Course) → IsCome g l course Before → next g l course ≡ attempts g l []
before_asks g l (Attempt seen) come = ap (attempts g l) come.0
before_asks g l (Answer entry filled) come =
    ap (λ (d : Option Reference). first_due d (answered g l entry.request entry.reply)) come.none ∙ come.anew

pub walking_asks : (g : Control) (l : Line) (course : Course) (walk : Reached) → IsCome g l course (Walking walk)
    → next g l course ≡ wants g l (wanted_at walk)
walking_asks g l (Attempt seen) walk come =
    memory_attempts g l seen come.1 ∙ ap (attempt g l) (sym (append-nil seen)) ∙ come.0.walked []
    ∙ ap (λ (at : Reached). wants g l (wanted_at at)) come.0.is
walking_asks g l (Answer entry filled) walk come = absurd come

pub link_calls : (g : Control) (l : Line) (course : Course) (place : Place) → IsCome g l course (AtLink place)
    → next g l course ≡ Calls place.ring (Link place.segno place.word)
link_calls g l (Attempt seen) place come = memory_attempts g l seen come.1 ∙ come.0
link_calls g l (Answer entry filled) place come = absurd come

pub link_refers : (g : Control) (l : Line) (course : Course) (place : Place) → IsCome g l course (AtLink place) → IsMemoryLine l
link_refers g l (Attempt seen) place come = come.1
link_refers g l (Answer entry filled) place come = absurd come

-- who was told to wait is at a `block`, and resumes
pub waits_next : (g : Control) (l : Line) (entry : journaled.Entry) (filled : List Judged)
    → IsAnswered g l entry filled Waiting → next g l (Answer entry filled) ≡ Calls g.registers.ring Resume
waits_next g l entry filled come =
    ap (λ (d : Option Reference). first_due d (answered g l entry.request entry.reply))
    (ap (λ (given : Reply). slice_get (section_words (section_in given) (links_of filled) ++ snapped entry.request entry.ring given) (length filled)) come.0)
    ∙ ap (λ (l : Line). answered g l entry.request entry.reply) come.2 ∙ ap (λ (given : Reply). replied g entry.request given) come.0
    ∙ ap (awaits g) come.1

pub waiting_calls : (g : Control) (l : Line) (course : Course) → IsCome g l course Waiting
    → next g l course ≡ Calls g.registers.ring Resume
waiting_calls g l (Attempt seen) come = absurd come.0
waiting_calls g l (Answer entry filled) come = waits_next g l entry filled come

pub waiting_blocks : (g : Control) (l : Line) (course : Course) → IsCome g l course Waiting → l ≡ line.Ask Block
waiting_blocks g l (Attempt seen) come = absurd come.0
waiting_blocks g l (Answer entry filled) come = come.2

pub filling_asks : (g : Control) (l : Line) (course : Course) (it : Fill) → IsCome g l course (Filling it)
    → next g l course ≡ Fills (write_of it)
filling_asks g l (Attempt seen) it come = absurd come.0
filling_asks g l (Answer entry filled) it come = asks_fill g l entry filled it come

-- where it walks it refers to memory
pub walking_refers : (g : Control) (l : Line) (course : Course) (walk : Reached) → IsCome g l course (Walking walk) → IsMemoryLine l
walking_refers g l (Attempt seen) walk come = come.1
walking_refers g l (Answer entry filled) walk come = absurd come
