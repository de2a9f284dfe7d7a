-- What a fold over the names that are left comes to.
use Rattle.std.proofs.Common.{ℕ, zero, suc, ◌≡◌, ◌+◌, ◌<◌, ◌≤◌, List, [], ◌∷◌, length, get_or, drop, fold, refl, ap, arith}

pub fold_on : {S A : Type 0} (f : S → A → S) (s : S) (xs : List A) (i : ℕ) (x : A) → i < length xs → x ≡ get_or xs i x → fold f (f s x) (drop (i + 1) xs) ≡ fold f s (drop i xs)
fold_on f s [] i x less is = absurd (omega (arith, less))
fold_on f s (y ∷ xs) zero x less is = ap (λ y. fold f (f s y) xs) is
fold_on f s (y ∷ xs) (suc i) x less is = let more : suc i + 1 ≡ suc (i + 1) = omega arith in rw more (fold_on f s xs i x (omega (arith, less)) is)

pub none_left : {A : Type 0} (xs : List A) (i : ℕ) → length xs ≤ i → drop i xs ≡ []
none_left [] zero past = refl
none_left [] (suc i) past = refl
none_left (x ∷ xs) zero past = absurd (omega (arith, past))
none_left (x ∷ xs) (suc i) past = none_left xs i (omega (arith, past))
