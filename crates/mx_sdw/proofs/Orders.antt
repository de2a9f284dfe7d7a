-- The first element of a list that passes a test, and the elements before it, which do not.
use Rattle.std.proofs.Common.{◌≡◌, Bool, true, false, cond, not, ◌&&◌, List, [], ◌∷◌, ◌++◌, Some, refl, ap, subst}
use Rattle.std.specs.Prelude.{find}
use Rattle.std.specs.List.{list_all}

pub record IsFirstIn {X : Type 0} (p : X → Bool) (xs : List X) (x : X) : Type 0 where
  pub front : List X
  pub back : List X
  pub parts : xs ≡ front ++ x ∷ back
  pub passes : p x ≡ true
  pub none : list_all (λ y. not (p y)) front ≡ true

found_here_or_later : {X : Type 0} (p : X → Bool) (y : X) (ys : List X) (x : X) (b : Bool) → p y ≡ b
    → cond b (Some y) (find p ys) ≡ Some x → (find p ys ≡ Some x → IsFirstIn p ys x) → IsFirstIn p (y ∷ ys) x
found_here_or_later p y ys x true t e later =
    let same : y ≡ x = cc in
    record { front = []; back = ys; parts = ap (λ z. z ∷ ys) same; passes = subst (λ z. p z ≡ true) same t; none = refl }
found_here_or_later p y ys x false t e later =
    let s = later e in
    record { front = y ∷ s.front; back = s.back; parts = ap (λ zs. y ∷ zs) s.parts; passes = s.passes; none = rw t s.none }

pub found_is_first : {X : Type 0} (p : X → Bool) (xs : List X) (x : X) → find p xs ≡ Some x → IsFirstIn p xs x
found_is_first p [] x e = cc
found_is_first p (y ∷ ys) x e = found_here_or_later p y ys x (p y) refl e (found_is_first p ys x)

passed_over : {X : Type 0} (p : X → Bool) (y : X) (rest : Bool) → not (p y) && rest ≡ true → (p y ≡ false) × (rest ≡ true)
passed_over p y rest e = elim (p y) as (λ b. not b && rest ≡ true → (b ≡ false) × (rest ≡ true)) [ true ↦ λ h. cc | false ↦ λ h. (refl, h) ] e

pub first_is_found : {X : Type 0} (p : X → Bool) (front : List X) (x : X) (back : List X) → p x ≡ true
    → list_all (λ y. not (p y)) front ≡ true → find p (front ++ x ∷ back) ≡ Some x
first_is_found p [] x back t none = rw t refl
first_is_found p (y ∷ ys) x back t none =
    let over = passed_over p y (list_all (λ z. not (p z)) ys) none in
    rw over.0 (first_is_found p ys x back t over.1)
