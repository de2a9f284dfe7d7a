-- What stands in a list after a write and after a push, and lists of one item.
use Rattle.std.proofs.Common.{◌≡◌, ◌⊎◌, ◌<◌, ℕ, zero, suc, List, [], ◌∷◌, ◌++◌, length, Some, inl, inr, refl, ap, sym, slice_set, slice_get, slice_index_or, arith}
use Rattle.std.specs.List.{Contains, AllPairs}

pub slice_get-set : {X : Type 0} (xs : List X) (k i : ℕ) (y x : X) → slice_get (slice_set xs k y) i ≡ Some x
    → ((i ≡ k) × (x ≡ y)) ⊎ (slice_get xs i ≡ Some x)
slice_get-set [] k i y x e = inr e
slice_get-set (z ∷ zs) zero zero y x e = inl (refl, cc)
slice_get-set (z ∷ zs) zero (suc i) y x e = inr e
slice_get-set (z ∷ zs) (suc k) zero y x e = inr e
slice_get-set (z ∷ zs) (suc k) (suc i) y x e =
    elim (slice_get-set zs k i y x e) [ inl a ↦ inl (ap suc a.0, a.1) | inr h ↦ inr h ]

pub slice_get-set_other : {X : Type 0} (xs : List X) (k i : ℕ) (y : X) → (i ≡ k → ⊥)
    → slice_get (slice_set xs k y) i ≡ slice_get xs i
slice_get-set_other [] k i y h = refl
slice_get-set_other (z ∷ zs) zero zero y h = absurd (h refl)
slice_get-set_other (z ∷ zs) zero (suc i) y h = refl
slice_get-set_other (z ∷ zs) (suc k) zero y h = refl
slice_get-set_other (z ∷ zs) (suc k) (suc i) y h = slice_get-set_other zs k i y (λ e. h (ap suc e))

pub slice_get-set_same : {X : Type 0} (xs : List X) (k : ℕ) (y x : X) → slice_get xs k ≡ Some x
    → slice_get (slice_set xs k y) k ≡ Some y
slice_get-set_same [] k y x e = cc
slice_get-set_same (z ∷ zs) zero y x e = refl
slice_get-set_same (z ∷ zs) (suc k) y x e = slice_get-set_same zs k y x e

pub slice_get-push : {X : Type 0} (xs : List X) (y : X) (i : ℕ) (x : X) → slice_get (xs ++ y ∷ []) i ≡ Some x
    → (slice_get xs i ≡ Some x) ⊎ ((i ≡ length xs) × (x ≡ y))
slice_get-push [] y zero x e = inr (refl, cc)
slice_get-push [] y (suc i) x e = cc
slice_get-push (z ∷ zs) y zero x e = inl e
slice_get-push (z ∷ zs) y (suc i) x e = elim (slice_get-push zs y i x e) [ inl h ↦ inl h | inr a ↦ inr (ap suc a.0, a.1) ]

pub slice_get-pushed : {X : Type 0} (xs : List X) (y : X) → slice_get (xs ++ y ∷ []) (length xs) ≡ Some y
slice_get-pushed [] y = refl
slice_get-pushed (z ∷ zs) y = slice_get-pushed zs y

pub slice_get-push_other : {X : Type 0} (xs : List X) (y : X) (i : ℕ) → (i ≡ length xs → ⊥)
    → slice_get (xs ++ y ∷ []) i ≡ slice_get xs i
slice_get-push_other [] y zero h = absurd (h refl)
slice_get-push_other [] y (suc i) h = refl
slice_get-push_other (z ∷ zs) y zero h = refl
slice_get-push_other (z ∷ zs) y (suc i) h = slice_get-push_other zs y i (λ e. h (ap suc e))

pub Contains-one : {X : Type 0} (x y : X) → Contains (x ∷ []) y → x ≡ y
Contains-one x y (zero, l, e) = e
Contains-one x y (suc k, l, e) = absurd (omega arith)

pub Contains-first : {X : Type 0} (x : X) (xs : List X) → Contains (x ∷ xs) x
Contains-first x xs = (0, omega arith, refl)

pub Contains-cases : {X : Type 0} (x : X) (xs : List X) (y : X) → Contains (x ∷ xs) y → (x ≡ y) ⊎ Contains xs y
Contains-cases x xs y (zero, l, e) = inl e
Contains-cases x xs y (suc k, l, e) = inr (k, omega arith, e)

pub nothing_contained : {X : Type 0} (y : X) → Contains [] y → ⊥
nothing_contained y c = omega (arith, c.1)

pub AllPairs-one : {X : Type 0} (R : X → X → Type 0) (x : X) → AllPairs R (x ∷ [])
AllPairs-one R x i j d l m = absurd (omega arith)

pub AllPairs-none : {X : Type 0} (R : X → X → Type 0) → AllPairs R []
AllPairs-none R i j d l m = absurd (omega arith)

pub some_in : {X : Type 0} (xs : List X) (i : ℕ) → i < length xs → (x : X) × (slice_get xs i ≡ Some x)
some_in [] i l = absurd (omega arith)
some_in (x ∷ xs) zero l = (x, refl)
some_in (x ∷ xs) (suc i) l = some_in xs i (omega arith)

-- what is read at a place, and written there again
pub index_is : {X : Type 0} (xs : List X) (k : ℕ) (x d : X) → slice_get xs k ≡ Some x → slice_index_or xs k d ≡ x
index_is [] k x d e = cc
index_is (y ∷ ys) zero x d e = cc
index_is (y ∷ ys) (suc k) x d e = index_is ys k x d e

pub set_again : {X : Type 0} (xs : List X) (k : ℕ) (x : X) → slice_get xs k ≡ Some x → slice_set xs k x ≡ xs
set_again [] k x e = cc
set_again (y ∷ ys) zero x e = let same : y ≡ x = cc in ap (λ z. z ∷ ys) (sym same)
set_again (y ∷ ys) (suc k) x e = ap (λ zs. y ∷ zs) (set_again ys k x e)
