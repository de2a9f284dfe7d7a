-- Laws of histories.
use Rattle.std.proofs.Common.{◌≡◌, ℕ, zero, suc, ◌≤◌, nat_le, Bool, true, false, List, [], ◌∷◌, ◌++◌, length, refl, sym, ap, ◌∙◌, append_assoc, length-append, subst, slice_get, Some, arith}
use Rattle.std.proofs.lemmas.Bool.Decides.{nat_tests}
use Rattle.mx_core.specs.Put.{pick}
use Rattle.mx_core.specs.World.{World}
use Rattle.mx_rule.specs.Fronts.{IsFront, longer_of}
use Rattle.mx_rule.specs.Rule.{AreMarked}
use Rattle.mx_rule.specs.Shown.{EntryView}

pub front_more : {A : Type 0} (more front whole : List A) → IsFront front whole → IsFront front (more ++ whole)
front_more more front whole f =
    record { later = more ++ f.later; is = ap (λ xs. more ++ xs) f.is ∙ sym (append_assoc more f.later front) }

pub front_same : {A : Type 0} (xs : List A) → IsFront xs xs
front_same xs = record { later = []; is = refl }

pub front_none : {A : Type 0} (xs : List A) → IsFront [] xs
front_none xs = record { later = xs; is = sym (none xs) }
  where
    none : {A : Type 0} (xs : List A) → xs ++ [] ≡ xs
    none [] = refl
    none (x ∷ xs) = ap (λ ys. x ∷ ys) (none xs)

either_front : {A : Type 0} (test : Bool) (xs ys whole : List A) → IsFront xs whole → IsFront ys whole
    → IsFront (pick test ys xs) whole
either_front true xs ys whole f g = g
either_front false xs ys whole f g = f

pub front_longer : {A : Type 0} (xs ys whole : List A) → IsFront xs whole → IsFront ys whole
    → IsFront (longer_of xs ys) whole
front_longer xs ys whole f g = either_front (nat_le (length xs) (length ys)) xs ys whole f g

tail_is : {A : Type 0} (x y : A) (xs ys : List A) → x ∷ xs ≡ y ∷ ys → xs ≡ ys
tail_is x y xs ys e = cc

-- of two fronts of one list the shorter is a front of the other
front_in : {A : Type 0} (lb b la a : List A) → lb ++ b ≡ la ++ a → length a ≤ length b → IsFront a b
front_in [] b la a e le = record { later = la; is = e }
front_in (x ∷ lb) b [] a e le = absurd (let z = ap (λ l. length l) e in omega (arith, length-append lb b))
front_in (x ∷ lb) b (y ∷ la) a e le = front_in lb b la a (tail_is x y (lb ++ b) (la ++ a) e) le

either_longer : {A : Type 0} (test : Bool) (a b : List A) → (test ≡ true → IsFront a b) → IsFront a (pick test b a)
either_longer true a b f = f refl
either_longer false a b f = front_same a

at_most : (m n : ℕ) → nat_le m n ≡ true → m ≤ n
at_most m n e = grind (arith, nat_tests)

pub front_old : {A : Type 0} (a b whole : List A) → IsFront a whole → IsFront b whole → IsFront a (longer_of a b)
front_old a b whole f g = either_longer (nat_le (length a) (length b)) a b
    (λ e. front_in g.later b f.later a (sym g.is ∙ f.is) (at_most (length a) (length b) e))

pub no_marks : {S : Type 0} (w : World) → AreMarked {E = S} w []
no_marks {S = S} w i e at = absurd (none i e at)
  where
    none : (i : ℕ) (e : EntryView S) → slice_get {X = EntryView S} [] i ≡ Some e → ⊥
    none i e at = cc

one_more : {S : Type 0} (w : World) (x : EntryView S) (whole : List (EntryView S))
    → x.mark ≤ length (w.trace x.process) → AreMarked w whole → AreMarked w (x ∷ whole)
one_more {S = S} w x whole le rest zero e at =
    subst (λ (y : EntryView S). y.mark ≤ length (w.trace y.process)) (is x e at) le
  where
    is : (a b : EntryView S) → Some a ≡ Some b → a ≡ b
    is a b e = cc
one_more w x whole le rest (suc i) e at = rest i e at

pub more_marks : {S : Type 0} (w : World) (more whole : List (EntryView S)) → AreMarked w more → AreMarked w whole
    → AreMarked w (more ++ whole)
more_marks w [] whole a b = b
more_marks w (x ∷ more) whole a b = one_more w x (more ++ whole) (a 0 x refl)
    (more_marks w more whole (λ j f h. a (suc j) f h) b)
