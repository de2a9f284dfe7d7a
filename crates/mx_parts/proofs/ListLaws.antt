-- Places of lists that are cut or put together.
use Rattle.std.proofs.Common.{◌≡◌, ℕ, zero, suc, ◌+◌, ◌<◌, ◌≤◌, List, [], ◌∷◌, ◌++◌, length, map, take, drop, Some, refl, ◌∙◌, ap, arith}
use Rattle.std.specs.List.{slice_get}

-- what stands at a place, and what stands behind it
pub drop_at : {A : Type 0} (xs : List A) (i : ℕ) (x : A) → slice_get xs i ≡ Some x → drop i xs ≡ x ∷ drop (suc i) xs
drop_at [] i x e = absurd cc
drop_at {A} (y ∷ xs) zero x e = ap (λ (z : A). z ∷ xs) (same y x e)
  where
    same : (a b : A) → Some a ≡ Some b → a ≡ b
    same a b e = cc
drop_at (y ∷ xs) (suc i) x e = drop_at xs i x e

pub drop_past : {A : Type 0} (xs : List A) (i : ℕ) → length xs ≤ i → drop i xs ≡ []
drop_past [] zero h = refl
drop_past [] (suc i) h = refl
drop_past (x ∷ xs) zero h = absurd (omega (arith, h))
drop_past (x ∷ xs) (suc i) h = drop_past xs i (omega (arith, h))

pub take_none : {A : Type 0} (i : ℕ) → take {A = A} i [] ≡ []
take_none zero = refl
take_none (suc i) = refl

pub get_left : {A : Type 0} (xs ys : List A) (i : ℕ) (x : A) → slice_get xs i ≡ Some x → slice_get (xs ++ ys) i ≡ Some x
get_left [] ys i x e = absurd cc
get_left (y ∷ xs) ys zero x e = e
get_left (y ∷ xs) ys (suc i) x e = get_left xs ys i x e

pub get_right : {A : Type 0} (xs ys : List A) (i : ℕ) → slice_get (xs ++ ys) (length xs + i) ≡ slice_get ys i
get_right {A} [] ys i =
    let none : length {A = A} [] + i ≡ i = omega arith in
    ap (slice_get ys) none
get_right (x ∷ xs) ys i =
    let more : length (x ∷ xs) + i ≡ suc (length xs + i) = omega arith in
    ap (slice_get (x ∷ (xs ++ ys))) more ∙ get_right xs ys i

pub get_take : {A : Type 0} (n : ℕ) (xs : List A) (i : ℕ) (x : A) → i < n → slice_get xs i ≡ Some x → slice_get (take n xs) i ≡ Some x
get_take n [] i x h e = absurd cc
get_take zero (y ∷ xs) i x h e = absurd (omega (arith, h))
get_take (suc n) (y ∷ xs) zero x h e = e
get_take (suc n) (y ∷ xs) (suc i) x h e = get_take n xs i x (omega (arith, h)) e

pub get_drop : {A : Type 0} (n : ℕ) (xs : List A) (i : ℕ) → slice_get (drop n xs) i ≡ slice_get xs (n + i)
get_drop zero xs i =
    let none : i ≡ zero + i = omega arith in
    ap (slice_get xs) none
get_drop (suc n) [] i = refl
get_drop (suc n) (x ∷ xs) i =
    let more : suc (n + i) ≡ suc n + i = omega arith in
    get_drop n xs i ∙ ap (slice_get (x ∷ xs)) more

pub map_more : {A B : Type 0} (f : A → B) (xs : List A) (i : ℕ) (x : A) → slice_get xs i ≡ Some x
    → map f (take (i + 1) xs) ≡ map f (take i xs) ++ f x ∷ []
map_more {A} f xs i x e =
    let next : i + 1 ≡ suc i = omega arith in
    ap (λ n. map f (take n xs)) next ∙ more xs i e
  where
    same : (a b : A) → Some a ≡ Some b → a ≡ b
    same a b e = cc

    more : (xs : List A) (i : ℕ) → slice_get xs i ≡ Some x → map f (take (suc i) xs) ≡ map f (take i xs) ++ f x ∷ []
    more [] i e = absurd cc
    more (y ∷ xs) zero e = ap (λ (z : A). f z ∷ []) (same y x e)
    more (y ∷ xs) (suc i) e = ap (λ zs. f y ∷ zs) (more xs i e)
