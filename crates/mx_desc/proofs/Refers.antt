-- A reference by a descriptor word.
use Rattle.std.proofs.Common.{◌≡◌, ℕ, ◌<◌, ◌≤◌, nat_le, Option, Some, None, refl, sym, ap, ◌∙◌, subst, arith, inl, inr}
use Rattle.mx_core.specs.Judging.{at_once}
use Rattle.mx_core.specs.Loading.{element_of}
use Rattle.mx_core.specs.declared.elements.Outcome.{Outcome}
use Rattle.mx_core.specs.declared.words.Asked.{Asked}
use Rattle.mx_core.specs.declared.words.DescriptorWord.{DescriptorWord}
use Rattle.mx_core.specs.declared.words.DescriptorWord.TheVariants.{Valid, Fault}
use Rattle.mx_core.specs.declared.words.Triple.{Triple}
use Rattle.mx_core.proofs.Puts.{pick_true, pick_false}
use Rattle.std.proofs.lemmas.Bool.{cases_lt}
use Rattle.std.proofs.lemmas.Bool.Decides.{nat_tests}
use Rattle.mx_sdw.specs.Admissible.{IsAdmissible}
use Rattle.mx_sdw.specs.Descriptors.{Descriptor, unknown_desc}
use Rattle.mx_rule.specs.Codes.{IsCodable}
use Rattle.mx_rule.specs.Loading.{IsNews, judged_view, loaded_view, missed_view, remembering_view}
use Rattle.mx_rule.specs.declared.views.PassView.{PassView}
use Rattle.mx_desc.specs.Completing.{IsCompleted, AwaitsCellUnless}
use Rattle.mx_desc.specs.Referring.{HasMissed, HasReferred, HasSeen, with_memory}
use Rattle.mx_desc.specs.Standing.{IsMissedAt, StandsAt}
use Rattle.mx_desc.proofs.Seeing.{seen_then}

pub waits_by : {S : Type 0} (x : Option Outcome) (u : Triple) (a : Asked) (w : PassView S)
    → AwaitsCellUnless x u a (judged_view x u a w)
waits_by None u a w = record { basis = refl; hold = refl }
waits_by (Some o) u a w = refl

module _ {S : Type 0} (numbers n floor : ℕ) (a : Asked) (v : PassView S) (at : v.floor ≡ floor) where
  -- what stands is judged
  judged_then : (word : DescriptorWord) (u : Triple) → StandsAt n floor word u
      → loaded_view numbers n a word v ≡ judged_view (at_once u.desc a) u a (with_memory numbers u v)
  judged_then (Valid number desc) u s =
      let on : Triple = record { segno = n; number = number; desc = desc } in
      let told : number ≤ v.floor = (let b = s.1 in omega arith) in
      pick_true (nat_le number v.floor) (judged_view (at_once desc a) on a (remembering_view numbers on v))
      (missed_view n number v) (grind (arith, nat_tests))
      ∙ ap (λ (z : Triple). judged_view (at_once z.desc a) z a (with_memory numbers z v)) (sym s.0)
  judged_then (Fault number) u s = absurd s

  pub waits_there : (word : DescriptorWord) (v1 : PassView S) (u : Triple) → v1 ≡ loaded_view numbers n a word v
      → StandsAt n floor word u → AwaitsCellUnless (at_once u.desc a) u a v1
  waits_there word v1 u is s = subst (AwaitsCellUnless (at_once u.desc a) u a) (sym (is ∙ judged_then word u s))
      (waits_by (at_once u.desc a) u a (with_memory numbers u v))

  stands_on : (word : DescriptorWord) (u : Triple) → IsCodable word → StandsAt n floor word u
      → (u.segno ≡ n) × (u.number ≤ v.floor) × IsAdmissible u.desc
  stands_on (Valid number desc) u codable s = (
    ap (λ (z : Triple). z.segno) s.0,
    (let b = s.1 in let c = ap (λ (z : Triple). z.number) s.0 in omega arith),
    subst (λ (z : Triple). IsAdmissible z.desc) (sym s.0) codable.1,
  )
  stands_on (Fault number) u codable s = absurd s

  pub after_there : (word : DescriptorWord) (v1 v2 : PassView S) (u : Triple) (value : ℕ) (o : Outcome)
      → v1 ≡ loaded_view numbers n a word v → StandsAt n floor word u → IsCompleted u a value v1 o v2
      → HasSeen u a value (with_memory numbers u v) (element_of u.segno a floor o) v2
  after_there word v1 v2 u value o is s done =
      subst (λ (f : ℕ). HasSeen u a value (with_memory numbers u v) (element_of u.segno a f o) v2) at
      (seen_then u a value (with_memory numbers u v) v1 v2 o (is ∙ judged_then word u s) done)

  pub seen_there : (word : DescriptorWord) (v1 v2 : PassView S) (u : Triple) (value : ℕ) (o : Outcome)
      → IsCodable word → v1 ≡ loaded_view numbers n a word v → StandsAt n floor word u
      → IsCompleted u a value v1 o v2 → HasReferred numbers n a value v (element_of u.segno a floor o) v2
  seen_there word v1 v2 u value o codable is s done = let t = stands_on word u codable s in record {
    on = u;
    segno = t.0;
    told = t.1;
    admissible = t.2;
    seen = after_there word v1 v2 u value o is s done;
  }

  missed_by : (word : DescriptorWord) (v1 : PassView S) (by : ℕ) → v1 ≡ loaded_view numbers n a word v → IsNews v n word
      → IsMissedAt floor word by → HasMissed n by v v1
  missed_by (Valid number desc) v1 by is news m =
      let on : Triple = record { segno = n; number = number; desc = desc } in
      let high : v.floor < number = (let b = m.1 in omega arith) in record {
        news = (let b = news high in let c = m.0 in omega arith);
        after = is
            ∙ pick_false (nat_le number v.floor) (judged_view (at_once desc a) on a (remembering_view numbers on v))
            (missed_view n number v) (grind (arith, nat_tests))
            ∙ ap (λ (b : ℕ). missed_view n b v) (sym m.0);
      }
  missed_by (Fault number) v1 by is news m = record {
    news = (let c = m in omega arith);
    after = is ∙ ap (λ (b : ℕ). missed_view n b v) (sym m);
  }

  -- beyond the table's numbers nothing is missed
  never : (number by : ℕ) (desc : Descriptor) → number ≤ v.floor → IsMissedAt floor (Valid number desc) by → ⊥
  never number by desc low m = (let b = m.1 in omega arith)

  pub missed_there : (word : DescriptorWord) (v1 : PassView S) (by : ℕ) → v.start ≤ v.floor
      → v1 ≡ loaded_view numbers n a word v → (n < numbers → IsNews v n word)
      → (numbers ≤ n → word ≡ Valid v.start unknown_desc) → IsMissedAt floor word by → HasMissed n by v v1
  missed_there word v1 by low is news past m = elim (cases_lt n numbers) [
    | inl near ↦ missed_by word v1 by is (news near) m
    | inr far ↦ absurd (never v.start by unknown_desc low
        (subst (λ (w : DescriptorWord). IsMissedAt floor w by) (past far) m))
  ]
