-- Elements of a list by their places, after some are dropped.
use Rattle.std.proofs.Common.{◌≡◌, ℕ, zero, suc, ◌+◌, List, [], ◌∷◌, drop, refl, ap, ◌∙◌, arith}
use Rattle.std.specs.List.{slice_get}

pub get_dropped : {A : Type 0} (n : ℕ) (xs : List A) (k : ℕ) → slice_get (drop n xs) k ≡ slice_get xs (n + k)
get_dropped zero xs k = let e : k ≡ 0 + k = omega arith in ap (λ (m : ℕ). slice_get xs m) e
get_dropped (suc n) [] k = refl
get_dropped (suc n) (x ∷ xs) k =
    let e : suc (n + k) ≡ suc n + k = omega arith in
    get_dropped n xs k ∙ ap (λ (m : ℕ). slice_get (x ∷ xs) m) e

drop_none : {A : Type 0} (n : ℕ) (xs : List A) → xs ≡ [] → drop n xs ≡ xs
drop_none zero xs e = refl
drop_none (suc n) [] e = refl
drop_none (suc n) (x ∷ xs) e = absurd cc

pub drop_dropped : {A : Type 0} (n k : ℕ) (xs : List A) → drop k (drop n xs) ≡ drop (n + k) xs
drop_dropped zero k xs = let e : k ≡ 0 + k = omega arith in ap (λ (m : ℕ). drop m xs) e
drop_dropped (suc n) k [] =
    let e : suc (n + k) ≡ suc n + k = omega arith in
    drop_none k [] refl ∙ ap (λ (m : ℕ). drop m []) e
drop_dropped (suc n) k (x ∷ xs) =
    let e : suc (n + k) ≡ suc n + k = omega arith in
    drop_dropped n k xs ∙ ap (λ (m : ℕ). drop m (x ∷ xs)) e
