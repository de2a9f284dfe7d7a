-- Lists of seats and of lines, as one process does one line more.
use Rattle.std.proofs.Common.{◌≡◌, ℕ, zero, suc, List, [], ◌∷◌, drop, length, Some, refl, ap}
use Rattle.std.specs.List.{slice_get, slice_set}

pub set_here : {A : Type 0} (xs : List A) (i : ℕ) (x y : A) → slice_get xs i ≡ Some x → slice_get (slice_set xs i y) i ≡ Some y
set_here [] i x y e = absurd (cc)
set_here (z ∷ xs) zero x y e = refl
set_here (z ∷ xs) (suc i) x y e = set_here xs i x y e

pub set_there : {A : Type 0} (xs : List A) (i j : ℕ) (y : A) → (j ≡ i → ⊥) → slice_get (slice_set xs i y) j ≡ slice_get xs j
set_there [] i j y n = refl
set_there (z ∷ xs) zero zero y n = absurd (n refl)
set_there (z ∷ xs) zero (suc j) y n = refl
set_there (z ∷ xs) (suc i) zero y n = refl
set_there (z ∷ xs) (suc i) (suc j) y n = set_there xs i j y (λ e. n (ap suc e))

pub set_length : {A : Type 0} (xs : List A) (i : ℕ) (y : A) → length (slice_set xs i y) ≡ length xs
set_length [] i y = refl
set_length (z ∷ xs) zero y = refl
set_length (z ∷ xs) (suc i) y = ap suc (set_length xs i y)

-- the lines that are left after one more
pub left_more : {A : Type 0} (n : ℕ) (xs : List A) (x : A) (left : List A) → drop n xs ≡ x ∷ left → drop (suc n) xs ≡ left
left_more zero [] x left e = absurd (cc)
left_more zero (y ∷ xs) x left e = cc
left_more (suc n) [] x left e = absurd (cc)
left_more (suc n) (y ∷ xs) x left e = left_more n xs x left e
