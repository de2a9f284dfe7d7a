-- Elements of a list by their places, among the first of the list and after them.
use Rattle.std.proofs.Common.{◌≡◌, ℕ, zero, suc, ◌<◌, List, [], ◌∷◌, ◌++◌, Some, take, drop, refl, ap, arith}
use Rattle.std.specs.List.{slice_get}

pub get_taken : {A : Type 0} (n : ℕ) (xs : List A) (k : ℕ) → k < n → slice_get (take n xs) k ≡ slice_get xs k
get_taken zero xs k h = absurd (omega arith)
get_taken (suc n) [] k h = refl
get_taken (suc n) (x ∷ xs) zero h = refl
get_taken (suc n) (x ∷ xs) (suc k) h = get_taken n xs k (omega arith)

-- an element of the first n is one of the list
pub taken_below : {A : Type 0} (n : ℕ) (xs : List A) (k : ℕ) (x : A) → slice_get (take n xs) k ≡ Some x → k < n
taken_below zero xs k x e = absurd cc
taken_below (suc n) [] k x e = absurd cc
taken_below (suc n) (y ∷ xs) zero x e = omega arith
taken_below (suc n) (y ∷ xs) (suc k) x e =
    let h : k < n = taken_below n xs k x e in
    omega arith

pub taken_more : {A : Type 0} (xs : List A) (n : ℕ) (x : A) → slice_get xs n ≡ Some x → take (suc n) xs ≡ take n xs ++ x ∷ []
taken_more {A = A} [] n x e = absurd cc
taken_more {A = A} (y ∷ xs) zero x e = let same : y ≡ x = cc in ap (λ (z : A). z ∷ []) same
taken_more {A = A} (y ∷ xs) (suc n) x e = ap (λ (l : List A). y ∷ l) (taken_more xs n x e)

pub dropped_more : {A : Type 0} (xs : List A) (n : ℕ) (x : A) → slice_get xs n ≡ Some x → drop n xs ≡ x ∷ drop (suc n) xs
dropped_more {A = A} [] n x e = absurd cc
dropped_more {A = A} (y ∷ xs) zero x e = let same : y ≡ x = cc in ap (λ (z : A). z ∷ xs) same
dropped_more {A = A} (y ∷ xs) (suc n) x e = dropped_more xs n x e
