-- Laws of readings by fronts, and of readings that are exact.
use Rattle.std.proofs.Common.{◌≡◌, ◌≢◌, ℕ, suc, ◌+◌, ◌-◌, ◌==◌, ◌<◌, ◌≤◌, Bool, true, false, cond, List, [], ◌∷◌, ◌++◌, length, get_or, take, drop, Option, Some, None, Result, Ok, Err, refl, sym, ◌∙◌, subst, arith, drop-cons}
use Rattle.std.proofs.Math.Seq.{drop-length}
use Rattle.std.proofs.lemmas.Bool.{eqb-true, eq-eqb}
use Rattle.std.proofs.lemmas.List.{take_rest}
use Rattle.std.specs.Cmp.Lexicographic.{pointwise}
use Rattle.std.specs.Prelude.{IfOk, IfSome}
use Rattle.mx_reader.specs.Exact.{IsExact}
use Rattle.mx_request.proofs.StepLaws.{same_bytes, some_is}
use Rattle.mx_script.proofs.FrontLaws.{after_takes}
use Rattle.mx_script.specs.Fronts.{after, read_or}

-- behind its front, or as another reading has it
pub read_or_takes : {A : Type 0} (Is : List ℕ → A → Type 0) (front text : List ℕ) (read : List ℕ → Option A) (other : Option A) (a : A)
    → ((rest : List ℕ) → read rest ≡ Some a → Is (front ++ rest) a) → (other ≡ Some a → Is text a)
    → read_or (after front text) read other ≡ Some a → Is text a
read_or_takes {A = A} Is front text read other a takes on e = by_front (after front text) refl e
  where
    by_front : (found : Option (List ℕ)) → after front text ≡ found → read_or found read other ≡ Some a → Is text a
    by_front None f e = on e
    by_front (Some rest) f e =
        let P : List ℕ → Type 0 = λ t. Is t a in
        subst P (sym (after_takes front text rest f)) (takes rest e)

-- a text that is one word, or as another reading has it
pub word_takes : {A : Type 0} (Is : List ℕ → A → Type 0) (text word : List ℕ) (own a : A) (other : Option A) → Is word own
    → (other ≡ Some a → Is text a) → cond (pointwise ◌==◌ text word) (Some own) other ≡ Some a → Is text a
word_takes {A = A} Is text word own a other is on e = by_test (pointwise ◌==◌ text word) refl e
  where
    by_test : (test : Bool) → pointwise ◌==◌ text word ≡ test → cond test (Some own) other ≡ Some a → Is text a
    by_test true t e =
        let P : List ℕ → Type 0 = λ t. Is t a in
        subst P (sym (same_bytes text word t)) (subst (Is word) (some_is own a e) is)
    by_test false t e = on e

-- what an exact reading of a text answers, in memory and without
module _ {A : Type 0} {Is : List ℕ → A → Type 0} {read : List ℕ → Option A} (exact : IsExact Is read) where
  pub found : (text : List ℕ) (told : Option A) → told ≡ read text → IfSome told (λ a. Is text a)
  found text None e = tt
  found text (Some a) e = exact.takes text a (sym e)

  pub only : (text : List ℕ) (told : Option A) → told ≡ read text → (a : A) → Is text a → told ≡ Some a
  only text told e a is = e ∙ exact.again text a is

  pub found_in : {E : Type 0} (text : List ℕ) (result : Result (Option A) E) → IfOk result (λ told. told ≡ read text)
      → IfOk result (λ told. IfSome told (λ a. Is text a))
  found_in text (Ok told) e = found text told e
  found_in text (Err x) e = tt

  pub only_in : {E : Type 0} (text : List ℕ) (result : Result (Option A) E) → IfOk result (λ told. told ≡ read text)
      → (a : A) → Is text a → IfOk result (λ told. told ≡ Some a)
  only_in text (Ok told) e a is = only text told e a is
  only_in text (Err x) e a is = tt

-- a text that is shorter than a front does not begin with it
pub none_after : (front text : List ℕ) → length text < length front → after front text ≡ None
unfolding after
none_after [] text e = absurd (omega (arith, e))
none_after (f ∷ fs) [] e = refl
none_after (f ∷ fs) (c ∷ cs) e = by_test (f == c) (none_after fs cs (omega (arith, e)))
  where
    by_test : (test : Bool) → after fs cs ≡ None → cond test (after fs cs) None ≡ None
    by_test true e = e
    by_test false e = refl

-- along a front and a text, byte by byte
pub one_along : (front text : List ℕ) (i : ℕ) → i < length front → length front ≤ length text → get_or front i 0 ≡ get_or text i 0
    → after (drop (i + 1) front) (drop (i + 1) text) ≡ after (drop i front) (drop i text)
unfolding after
one_along front text i low short same =
    let next : i + 1 ≡ suc i = omega arith in
    let test : (get_or front i 0 == get_or text i 0) ≡ true = eq-eqb (get_or front i 0) (get_or text i 0) same in
    rw (next, drop-cons front i 0 low, drop-cons text i 0 (omega (arith, low, short)), test) refl

pub none_along : (front text : List ℕ) (i : ℕ) → i < length front → length front ≤ length text → get_or front i 0 ≢ get_or text i 0
    → after (drop i front) (drop i text) ≡ None
unfolding after
none_along front text i low short other =
    rw (drop-cons front i 0 low, drop-cons text i 0 (omega (arith, low, short)))
    (by_test (get_or front i 0 == get_or text i 0) refl)
  where
    by_test : (test : Bool) → (get_or front i 0 == get_or text i 0) ≡ test
        → cond test (after (drop (suc i) front) (drop (suc i) text)) None ≡ None
    by_test true t = absurd (other (eqb-true (get_or front i 0) (get_or text i 0) t))
    by_test false t = refl

pub all_along : (front text : List ℕ) (i : ℕ) → length front ≡ i → length front ≤ length text
    → after (drop i front) (drop i text) ≡ Some (take (length text - length front) (drop (length front) text))
unfolding after
all_along front text i end short =
    rw (sym end, drop-length front, take_rest text (length front)) refl
