-- What stands at each place of a list, as it is built, written to and cut.
use Rattle.std.proofs.Common.{◌≡◌, ◌<◌, ◌≤◌, ℕ, zero, suc, List, [], ◌∷◌, ◌++◌, Some, None, drop, length, map, inl, inr, refl, ap, sym, subst, slice_set, arith}
use Rattle.std.specs.List.{slice_get}
use Rattle.mx_state.proofs.Lists.{slice_get-push, slice_get-pushed}

-- so it is at each place
abbrev pub AtEach : {X : Type 0} → (ℕ → X → Type 0) → List X → Type 0
AtEach P xs = (place : ℕ) (x : _) → slice_get xs place ≡ Some x → P place x

pub get_within : {X : Type 0} (xs : List X) (i : ℕ) (x : X) → slice_get xs i ≡ Some x → i < length xs
get_within [] i x e = cc
get_within (y ∷ xs) zero x e = omega arith
get_within (y ∷ xs) (suc i) x e = let less = get_within xs i x e in omega (arith, less)

pub get_beyond : {X : Type 0} (xs : List X) (i : ℕ) → length xs ≤ i → slice_get xs i ≡ None
get_beyond [] i most = refl
get_beyond (y ∷ xs) zero most = absurd (omega (arith, most))
get_beyond (y ∷ xs) (suc i) most = get_beyond xs i (omega (arith, most))

pub get_left : {X : Type 0} (xs ys : List X) (i : ℕ) (x : X) → slice_get xs i ≡ Some x → slice_get (xs ++ ys) i ≡ Some x
get_left [] ys i x e = cc
get_left (z ∷ xs) ys zero x e = e
get_left (z ∷ xs) ys (suc i) x e = get_left xs ys i x e

pub get_middle : {X : Type 0} (xs ys : List X) (y : X) → slice_get (xs ++ y ∷ ys) (length xs) ≡ Some y
get_middle [] ys y = refl
get_middle (z ∷ xs) ys y = get_middle xs ys y

pub get_map : {X Y : Type 0} (f : X → Y) (xs : List X) (i : ℕ) (x : X) → slice_get xs i ≡ Some x
    → slice_get (map f xs) i ≡ Some (f x)
get_map f [] i x e = cc
get_map f (z ∷ xs) zero x e = let same : z ≡ x = cc in ap (λ w. Some (f w)) same
get_map f (z ∷ xs) (suc i) x e = get_map f xs i x e

pub record IsOf {X Y : Type 0} (f : X → Y) (xs : List X) (i : ℕ) (y : Y) : Type 0 where
  pub x : X
  pub at : slice_get xs i ≡ Some x
  pub is : y ≡ f x

pub of_map : {X Y : Type 0} (f : X → Y) (xs : List X) (i : ℕ) (y : Y) → slice_get (map f xs) i ≡ Some y → IsOf f xs i y
of_map f [] i y e = absurd (none e)
  where
    none : slice_get {X = _} [] i ≡ Some y → ⊥
    none e = cc
of_map f (x ∷ xs) zero y e = let same : f x ≡ y = cc in record { x = x; at = refl; is = sym same }
of_map f (x ∷ xs) (suc i) y e = let o = of_map f xs i y e in record { x = o.x; at = o.at; is = o.is }

-- one more
pub each_front : {X : Type 0} (P : ℕ → X → Type 0) (xs ys : List X) → AtEach P (xs ++ ys) → AtEach P xs
each_front P xs ys all i x at = all i x (get_left xs ys i x at)

pub each_last : {X : Type 0} (P : ℕ → X → Type 0) (xs : List X) (y : X) → AtEach P (xs ++ y ∷ []) → P (length xs) y
each_last P xs y all = all (length xs) y (slice_get-pushed xs y)

pub each_more : {X : Type 0} (P : ℕ → X → Type 0) (xs : List X) (y : X) → AtEach P xs → P (length xs) y → AtEach P (xs ++ y ∷ [])
each_more P xs y all here i x at = elim (slice_get-push xs y i x at) [
  | inl before ↦ all i x before
  | inr last ↦ subst (λ z. P i z) (sym last.1) (subst (λ n. P n y) (sym last.0) here)
]

-- one that is another now
pub each_set : {X : Type 0} (P : ℕ → X → Type 0) (xs : List X) (k : ℕ) (y : X)
    → ((i : ℕ) (x : X) → slice_get xs i ≡ Some x → (i ≡ k → ⊥) → P i x) → P k y → AtEach P (slice_set xs k y)
each_set P [] k y others here i x at = absurd (none at)
  where
    none : slice_get {X = _} [] i ≡ Some x → ⊥
    none at = cc
each_set P (z ∷ xs) zero y others here zero x at = let same : y ≡ x = cc in subst (P 0) same here
each_set P (z ∷ xs) zero y others here (suc i) x at = others (suc i) x at (λ e. omega (arith, e))
each_set P (z ∷ xs) (suc k) y others here zero x at = others zero x at (λ e. omega (arith, e))
each_set P (z ∷ xs) (suc k) y others here (suc i) x at =
    each_set (λ n. P (suc n)) xs k y (λ j w there other. others (suc j) w there (λ e. other (omega (arith, e)))) here i x at

-- what is cut off
pub drop_all : {X : Type 0} (n : ℕ) (xs : List X) → length xs ≤ n → drop n xs ≡ []
drop_all zero [] most = refl
drop_all zero (x ∷ xs) most = absurd (omega (arith, most))
drop_all (suc n) [] most = refl
drop_all (suc n) (x ∷ xs) most = drop_all n xs (omega (arith, most))

pub drop_more : {X : Type 0} (n : ℕ) (xs ys : List X) → n ≤ length xs → drop n (xs ++ ys) ≡ drop n xs ++ ys
drop_more zero xs ys most = refl
drop_more (suc n) [] ys most = absurd (omega (arith, most))
drop_more (suc n) (x ∷ xs) ys most = drop_more n xs ys (omega (arith, most))

pub map_more : {X Y : Type 0} (f : X → Y) (xs ys : List X) → map f (xs ++ ys) ≡ map f xs ++ map f ys
map_more f [] ys = refl
map_more f (x ∷ xs) ys = ap (λ l. f x ∷ l) (map_more f xs ys)

pub map_length : {X Y : Type 0} (f : X → Y) (xs : List X) → length (map f xs) ≡ length xs
map_length f [] = refl
map_length f (x ∷ xs) = ap suc (map_length f xs)
