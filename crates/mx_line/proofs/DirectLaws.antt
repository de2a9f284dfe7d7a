-- A line whose operand is not indirect makes its own reference first, at its target.
use Rattle.std.proofs.Common.{◌≡◌, ℕ, max, Bool, true, false, List, [], ◌∷◌, ◌++◌, Option, Some, None, IfSome, IsSome, inl, inr, refl, sym, ◌∙◌, ap, subst}
use Rattle.std.specs.Option.{option_map}
use Rattle.std.proofs.Math.Nat.{max-zero}
use Rattle.mx_call.specs.Registers.{Registers, raised_to}
use Rattle.mx_core.specs.Judging.{kind_of}
use Rattle.mx_core.specs.declared.elements.Element.{Element}
use Rattle.mx_core.specs.declared.elements.Event.TheVariants.{Seen}
use Rattle.mx_core.specs.declared.elements.Kind.TheVariants.{Ind}
use Rattle.mx_effring.specs.Chains as chains
use Rattle.mx_effring.specs.Chains.{read_on}
use Rattle.mx_effring.specs.Walks.{Reached, reached, wanted, wanted_at}
use Rattle.mx_effring.specs.declared.walks.Want.{Want}
use Rattle.mx_effring.specs.declared.walks.Want.TheVariants as want
use Rattle.mx_ptr.specs.Pointers.{PointerParts, parts_of}
use Rattle.mx_script.specs.declared.lines.Line.{Line}
use Rattle.mx_sdw.specs.Descriptors.{Descriptor}
use Rattle.mx_transcript.specs.Asking.{attempts}
use Rattle.mx_transcript.specs.Attempts.{wants, after_seen, along, attempt}
use Rattle.mx_transcript.specs.Courses.{Judged}
use Rattle.mx_transcript.specs.Elements.{IsJudged}
use Rattle.mx_transcript.specs.Next.{Next, Reference, Asks}
use Rattle.mx_transcript.specs.Operands.{walk_from, walk_of}
use Rattle.mx_transcript.specs.Settings.{Setting}
use Rattle.mx_transcript.specs.Targets.{at_target, after_target}
use Rattle.mx_transcript.specs.declared.transcripts.Event2.TheVariants.{Core}
use Rattle.mx_transcript.specs.declared.transcripts.Result2.{Result2}
use Rattle.mx_upcall.specs.Control.{Control}
use Rattle.mx_line.proofs.TakenLaws.{Leads, begun_taken, begun_met, same_asked, unwalked_met, walking_taken}
use Rattle.mx_line.specs.AtWork.{EndsAt, HasSeen, IsKnown, IsMet, IsSaid, IsTaken, IsTakenTo, beside, ending, left}
use Rattle.mx_line.proofs.StandingLaws.{before_asks, begun_fills, walk_asks}
use Rattle.mx_line.specs.Looks.{looks}
use Rattle.mx_line.specs.Operands.{first_want, want_at}
use Rattle.mx_line.specs.declared.at_work.LineAtWork.{LineAtWork}
use Rattle.mx_line.specs.declared.at_work.LineAtWork.TheVariants as at
use Rattle.mx_line.specs.declared.operands.Progress.TheVariants.{Before, Walking}

-- the walk that asks for this at its beginning
record HasFirstWalk (g : Registers) (l : Line) (w : Want) : Type 0 where
  pub walk : chains.Operand
  pub is : walk_of g l ≡ Some walk
  pub asks : wanted walk ≡ w

first_walk : (g : Registers) (l : Line) (w : Want) → first_want g l ≡ Some w → HasFirstWalk g l w
first_walk g l w e = by_walk (walk_of g l) refl e
  where
    one : (a b : Want) → Some a ≡ Some b → a ≡ b
    one a b e = cc

    by_walk : (walk : Option chains.Operand) → walk_of g l ≡ walk → option_map wanted walk ≡ Some w → HasFirstWalk g l w
    by_walk None is e = absurd cc
    by_walk (Some walk) is e = record { walk = walk; is = is; asks = one (wanted walk) w e }

-- a line asks at its beginning for what its walk does
pub first_asks : (g : Control) (l : Line) (w : Want) → first_want g.registers l ≡ Some w → attempts g l [] ≡ wants g l w
first_asks g l w e = let f = first_walk g.registers l w e in walk_asks g l f.walk f.is ∙ ap (wants g l) f.asks

-- a place that is said to be what the walk asks for
pub first_at : (g : Registers) (l : Line) (found : Option PointerParts) (place : PointerParts) → option_map want_at found ≡ first_want g l
    → found ≡ Some place → first_want g l ≡ Some (want_at place)
first_at g l found place is e = sym is ∙ ap (option_map want_at) e

-- the place of a walk that has read no word yet
pub from_place : (g : Registers) (indirect : Bool) (base place : PointerParts)
    → place ≡ record (raised_to g.ring base) { further = indirect } → wanted (walk_from g indirect base) ≡ want_at place
from_place g true base place is = ap (λ n. want.Word base.segno base.word n) (ap (max g.ring) (max-zero base.ring)) ∙ ap want_at (sym is)
from_place g false base place is =
    ap (λ n. want.Done (record { ring = n; segno = base.segno; word = base.word; further = false }))
    (ap (max g.ring) (max-zero base.ring)) ∙ ap want_at (sym is)

-- what an event makes of a line at its target
abbrev pub Tells : Control → Line → PointerParts → Element → Descriptor → LineAtWork → Type 0
Tells g l target e d after = (asked : Reference) → at_target g l target ≡ Asks asked → IsJudged asked d e
    → IsSaid g (after_target g l target d e.outcome) after

said_seen : (g : Control) (l : Line) (seen : List Judged) (asks : Next) (after : LineAtWork) → attempt g l seen ≡ asks
    → IsSaid g asks after → HasSeen g l seen after
said_seen g l seen asks (at.At progress) e said = absurd said
said_seen g l seen asks (at.Ended end) e said = e ∙ said
said_seen g l seen asks at.Nowhere e said = e ∙ said

told_leads : (g : Control) (l : Line) (walk : Reached) (target : PointerParts) (e : Element) (d : Descriptor) (after : LineAtWork)
    → wanted_at walk ≡ want.Done target → Tells g l target e d after → Leads g l walk e d after
told_leads g l walk target e d after done tells seen asked come at right =
    said_seen g l (seen ++ beside e d ∷ []) (after_target g l target d e.outcome) after
    (come.walked (beside e d ∷ []) ∙ ap (λ (w : Want). after_seen g l come.operand (beside e d) w rest) (ap wanted_at come.is ∙ done))
    (tells asked (sym (ap (wants g l) done) ∙ at) right)
  where
    rest : ℕ → Next
    rest value = along g l (read_on come.operand (parts_of value) d.brackets.r1) []

pub direct_taken : (g : Control) (l : Line) (target : PointerParts) (e : Element) (d : Descriptor) (after : LineAtWork)
    → first_want g.registers l ≡ Some (want.Done target) → Tells g l target e d after → (setting : Setting) → setting.descriptor e ≡ d
    → IsTaken g l setting (Core (Seen e)) (at.At Before) after
direct_taken g l target e d after is tells =
    let f = first_walk g.registers l (want.Done target) is in
    begun_taken g l (reached f.walk) e d after (ap (option_map reached) f.is) (told_leads g l (reached f.walk) target e d after f.asks tells)

pub direct_met : (g : Control) (l : Line) (target : PointerParts) (e : Element) (d : Descriptor)
    → first_want g.registers l ≡ Some (want.Done target) → (m : IsMet g l (at.At Before) e d) → at_target g l target ≡ Asks m.asked
direct_met g l target e d is m =
    let f = first_walk g.registers l (want.Done target) is in
    sym (ap (wants g l) f.asks) ∙ begun_met g l (reached f.walk) e d (ap (option_map reached) f.is) m

-- what is said of the end of a line is told of it
pub ending_said : (g : Control) (asks : Next) (ends : Option Result2) → asks ≡ ending g ends → IsSaid g asks (left g ends)
ending_said g asks None e = e
ending_said g asks (Some ends) e = e

pub left_known : (g : Control) (ends : Option Result2) → IsSome ends → IsKnown (left g ends)
left_known g None is = absurd cc
left_known g (Some ends) is = tt

-- a line that ends so at its target ends so by its first reference
pub ends_taken : (g : Control) (l : Line) (target : PointerParts) (e : Element) (ends : Result2)
    → first_want g.registers l ≡ Some (want.Done target) → EndsAt l e.outcome ends → IsTakenTo g l e (at.At Before) (left g (Some ends))
ends_taken g l target e ends is at_end = λ d setting on.
    direct_taken g l target e d (left g (Some ends)) is (λ asked at right. at_end g target d) setting on

pub walk_ends_taken : (g : Control) (l : Line) (walk : Reached) (target : PointerParts) (e : Element) (ends : Result2)
    → wanted_at walk ≡ want.Done target → EndsAt l e.outcome ends
    → IsTakenTo g l e (at.At (Walking walk)) (left g (Some ends))
walk_ends_taken g l walk target e ends done at_end = λ d setting on.
    walking_taken g l walk e d (left g (Some ends)) (told_leads g l walk target e d (left g (Some ends)) done (λ asked at right. at_end g target d))
    setting on

-- so it is with the end that is found
pub walk_ends_in : (g : Control) (l : Line) (walk : Reached) (target : PointerParts) (e : Element) (found : Option Result2)
    → wanted_at walk ≡ want.Done target → IfSome found (EndsAt l e.outcome)
    → IfSome found (λ ends. IsTakenTo g l e (at.At (Walking walk)) (left g (Some ends)))
walk_ends_in g l walk target e None done at_end = tt
walk_ends_in g l walk target e (Some ends) done at_end = walk_ends_taken g l walk target e ends done at_end

-- the walk of a line asks at its beginning for its target
record IsDirect (g : Registers) (l : Line) : Type 0 where
  pub target : PointerParts
  pub is : first_want g l ≡ Some (want.Done target)

-- a line that asked for what is no indirect word is at its target
met_direct : (g : Control) (l : Line) (e : Element) (d : Descriptor) → (e.kind ≡ Ind → ⊥) → IsMet g l (at.At Before) e d
    → IsDirect g.registers l
met_direct g l e d other m = by_walk (walk_of g.registers l) refl
  where
    by_want : (walk : chains.Operand) → walk_of g.registers l ≡ Some walk → (w : Want) → wanted walk ≡ w → IsDirect g.registers l
    by_want walk is (want.Word segno word ring) at = absurd (other
        (m.right.kind ∙ ap (λ (r : Reference). kind_of r.op)
        (sym (same_asked (looks (record { segno = segno; word = word; ring = ring })) m.asked
        (sym (ap (wants g l) at) ∙ begun_met g l (reached walk) e d (ap (option_map reached) is) m)))))
    by_want walk is (want.Done target) at = record { target = target; is = ap (option_map wanted) is ∙ ap Some at }

    by_walk : (walk : Option chains.Operand) → walk_of g.registers l ≡ walk → IsDirect g.registers l
    by_walk None is = absurd (unwalked_met g l e d (ap (option_map reached) is) m)
    by_walk (Some walk) is = by_want walk is (wanted walk) refl

-- a line that ends so at its target ends so by an element that is no indirect word
ends_met : (g : Control) (l : Line) (e : Element) (ends : Result2) → (e.kind ≡ Ind → ⊥) → EndsAt l e.outcome ends
    → IsTakenTo g l e (at.At Before) (left g (Some ends))
ends_met g l e ends other at_end = λ d setting on course later come is. elim is [
  | inl r ↦
      let direct = met_direct g l e d other (record {
        course = course;
        stands = come;
        asked = r.asked;
        asks = r.next;
        right = subst (λ (f : Descriptor). IsJudged r.asked f e) on r.right;
      }) in
      ends_taken g l direct.target e ends direct.is at_end d setting on course later come (inl r)
  | inr f ↦ absurd (begun_fills g l f.asked (sym (before_asks g l course come) ∙ f.next))
]

-- so it is with the end that is found
pub ends_found : (g : Control) (l : Line) (e : Element) (found : Option Result2) → (e.kind ≡ Ind → ⊥) → IfSome found (EndsAt l e.outcome)
    → IfSome found (λ ends. IsTakenTo g l e (at.At Before) (left g (Some ends)))
ends_found g l e None other at_end = tt
ends_found g l e (Some ends) other at_end = ends_met g l e ends other at_end
