-- The front of what is appended.
use Rattle.std.proofs.Common.{ℕ, ◌≡◌, ◌+◌, suc, List, [], ◌∷◌, ◌++◌, length, take, ap, ◌∙◌, arith}

pub front_appended : (xs ys : List ℕ) (n : ℕ) → take (length xs + n) (xs ++ ys) ≡ xs ++ take n ys
front_appended [] ys n = let same : 0 + n ≡ n = omega arith in ap (λ m. take m ys) same
front_appended (x ∷ xs) ys n =
    let same : length (x ∷ xs) + n ≡ suc (length xs + n) = omega arith in
    ap (λ m. take m (x ∷ xs ++ ys)) same ∙ ap (λ more. x ∷ more) (front_appended xs ys n)
