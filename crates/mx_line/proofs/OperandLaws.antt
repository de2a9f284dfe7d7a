-- What an indirect word makes of a walk.
use Rattle.std.proofs.Common.{◌≡◌, ℕ, ◌≤◌, List, [], ◌∷◌, ◌++◌, Option, Some, None, refl, sym, ◌∙◌, ap, subst, arith, append-nil}
use Rattle.mx_call.specs.Loading.{loaded}
use Rattle.mx_upcall.specs.Control.{Control, with_registers}
use Rattle.mx_core.specs.declared.elements.Outcome.{Outcome}
use Rattle.mx_core.specs.declared.elements.Outcome.TheVariants as outcome
use Rattle.mx_effring.specs.Chains as chains
use Rattle.mx_effring.specs.Chains.{read_on}
use Rattle.mx_effring.specs.Walks.{Reached, reached, wanted_at, refuses, refuses_at}
use Rattle.mx_effring.specs.declared.walks.Stuck.{Stuck}
use Rattle.mx_effring.specs.declared.walks.Stuck.TheVariants as stuck
use Rattle.mx_effring.specs.declared.walks.Want.{Want}
use Rattle.mx_effring.specs.declared.walks.Want.TheVariants as want
use Rattle.mx_transcript.proofs.WalkLaws.{walk_law}
use Rattle.mx_transcript.specs.Attempts.{wants, taken, after_word, after_seen, along, attempt}
use Rattle.mx_transcript.specs.Courses.{Judged}
use Rattle.mx_transcript.specs.Next.{Next, Calls, Ends, Nowhere}
use Rattle.mx_transcript.specs.Targets.{at_target}
use Rattle.mx_transcript.specs.declared.transcripts.Result2.TheVariants as result
use Rattle.mx_ptr.specs.Pointers.{PointerParts, parts_of}
use Rattle.mx_request.specs.declared.requests.Request.TheVariants.{Link}
use Rattle.mx_script.specs.declared.lines.Line.{Line}
use Rattle.mx_script.specs.declared.lines.Line.TheVariants as line
use Rattle.mx_script.specs.declared.lines.Operand.{Operand}
use Rattle.mx_sdw.specs.Admissible.{IsAdmissible}
use Rattle.mx_sdw.specs.Descriptors.{Descriptor}
use Rattle.mx_sdw.specs.declared.descriptors.DescKind.{DescKind}
use Rattle.mx_sdw.specs.declared.descriptors.DescKind.TheVariants as kinds
use Rattle.mx_sdw.specs.declared.denials.Denial.TheVariants.{NotPointer, IndirectLimit}
use Rattle.mx_line.specs.Operands.{HasComeTo}
use Rattle.mx_line.specs.declared.operands.Place.{Place}

-- the first bracket of a descriptor that a table may hold is a ring
pub first_low : (d : Descriptor) → IsAdmissible d → d.brackets.r1 ≤ 7
first_low d admissible = by_kind d.kind refl
  where
    by_kind : (kind : DescKind) → d.kind ≡ kind → d.brackets.r1 ≤ 7
    by_kind kinds.Unknown e = subst (λ (d : Descriptor). d.brackets.r1 ≤ 7) (sym (admissible.unknown e)) (omega arith)
    by_kind kinds.Gone e = subst (λ (d : Descriptor). d.brackets.r1 ≤ 7) (sym (admissible.gone e)) (omega arith)
    by_kind kinds.Segment e = (let range = (admissible.segment e).range in let high = range.ring in let order = range.order in omega arith)

-- what an indirect word makes of a walk
pub led_end : (g : Control) (l : Line) (walk : Reached) (n : ℕ) (o : Operand) (target : PointerParts) → l ≡ line.Epp n o
    → wanted_at walk ≡ want.Done target → (seen : List Judged) → HasComeTo g l seen walk
    → attempt g l seen ≡ Ends (result.Pr n target) (with_registers g (loaded g.registers n target))
led_end g l walk n o target e done seen come =
    ap (attempt g l) (sym (append-nil seen)) ∙ come.walked [] ∙ ap (wants g l) (ap wanted_at come.is ∙ done) ∙ ap (λ (l : Line). at_target g l target) e

pub fed_walk : (g : Control) (l : Line) (walk : Reached) (place : Place) (value r1 : ℕ) → wanted_at walk ≡ want.Word place.segno place.word place.ring
    → refuses_at walk value ≡ None → (seen : List Judged) (j : Judged) (writer stamp : ℕ) → HasComeTo g l seen walk
    → j.element.outcome ≡ outcome.Read value writer stamp → j.desc.brackets.r1 ≡ r1
    → (after : Reached) → ((operand : chains.Operand) → reached operand ≡ walk → after ≡ reached (read_on operand (parts_of value) r1))
    → HasComeTo g l (seen ++ j ∷ []) after
fed_walk g l walk place value r1 wants fits seen j writer stamp come came first after leads = record {
  operand = read_on come.operand (parts_of value) j.desc.brackets.r1;
  is = ap (λ n. reached (read_on come.operand (parts_of value) n)) first ∙ sym (leads come.operand come.is);
  walked = walk_law g l seen come.operand j place.segno place.word place.ring value writer stamp come.walked (ap wanted_at come.is ∙ wants) came
      (ap (λ (at : Reached). refuses_at at value) come.is ∙ fits);
}

fed_stuck : (g : Control) (l : Line) (walk : Reached) (place : Place) (value : ℕ) (why : Stuck) → wanted_at walk ≡ want.Word place.segno place.word place.ring
    → refuses_at walk value ≡ Some why → (seen : List Judged) (j : Judged) (writer stamp : ℕ) → HasComeTo g l seen walk
    → j.element.outcome ≡ outcome.Read value writer stamp → (onward : Next)
    → attempt g l (seen ++ j ∷ []) ≡ taken g place.segno place.word place.ring (Some why) onward
fed_stuck g l walk place value why wants fits seen j writer stamp come came onward = by_why why (ap (λ (at : Reached). refuses_at at value) come.is ∙ fits)
  where
    rest : ℕ → Next
    rest v = along g l (read_on come.operand (parts_of v) j.desc.brackets.r1) []

    start : attempt g l (seen ++ j ∷ []) ≡ taken g place.segno place.word place.ring (refuses come.operand value) (rest value)
    start = come.walked (j ∷ []) ∙ ap (λ (w : Want). after_seen g l come.operand j w rest) (ap wanted_at come.is ∙ wants)
        ∙ ap (λ (c : Outcome). after_word g come.operand place.segno place.word place.ring c rest) came

    by_why : (why : Stuck) → refuses come.operand value ≡ Some why
        → attempt g l (seen ++ j ∷ []) ≡ taken g place.segno place.word place.ring (Some why) onward
    by_why stuck.Link e = start ∙ ap (λ (w : Option Stuck). taken g place.segno place.word place.ring w (rest value)) e
    by_why stuck.NotPointer e = start ∙ ap (λ (w : Option Stuck). taken g place.segno place.word place.ring w (rest value)) e
    by_why stuck.Limit e = start ∙ ap (λ (w : Option Stuck). taken g place.segno place.word place.ring w (rest value)) e

pub fed_link : (g : Control) (l : Line) (walk : Reached) (place : Place) (value : ℕ) → wanted_at walk ≡ want.Word place.segno place.word place.ring
    → refuses_at walk value ≡ Some stuck.Link → (seen : List Judged) (j : Judged) (writer stamp : ℕ) → HasComeTo g l seen walk
    → j.element.outcome ≡ outcome.Read value writer stamp
    → attempt g l (seen ++ j ∷ []) ≡ Calls place.ring (Link place.segno place.word)
fed_link g l walk place value wants fits seen j writer stamp come came =
    fed_stuck g l walk place value stuck.Link wants fits seen j writer stamp come came Nowhere

pub fed_not_pointer : (g : Control) (l : Line) (walk : Reached) (place : Place) (value : ℕ) → wanted_at walk ≡ want.Word place.segno place.word place.ring
    → refuses_at walk value ≡ Some stuck.NotPointer → (seen : List Judged) (j : Judged) (writer stamp : ℕ) → HasComeTo g l seen walk
    → j.element.outcome ≡ outcome.Read value writer stamp
    → attempt g l (seen ++ j ∷ []) ≡ Ends (result.Denied NotPointer) g
fed_not_pointer g l walk place value wants fits seen j writer stamp come came =
    fed_stuck g l walk place value stuck.NotPointer wants fits seen j writer stamp come came Nowhere

pub fed_limit : (g : Control) (l : Line) (walk : Reached) (place : Place) (value : ℕ) → wanted_at walk ≡ want.Word place.segno place.word place.ring
    → refuses_at walk value ≡ Some stuck.Limit → (seen : List Judged) (j : Judged) (writer stamp : ℕ) → HasComeTo g l seen walk
    → j.element.outcome ≡ outcome.Read value writer stamp
    → attempt g l (seen ++ j ∷ []) ≡ Ends (result.Denied IndirectLimit) g
fed_limit g l walk place value wants fits seen j writer stamp come came =
    fed_stuck g l walk place value stuck.Limit wants fits seen j writer stamp come came Nowhere
