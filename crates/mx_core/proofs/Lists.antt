-- A list with a first item is that item and the rest; a list of values with one more.
use Rattle.std.proofs.Common.{◌≡◌, ℕ, zero, suc, ◌-◌, ◌≤◌, List, [], ◌∷◌, ◌++◌, length, take, drop, get_or, refl, ap, sym, ◌∙◌, Some, arith}
use Rattle.mx_core.specs.Lists.{Lists}

take_all : {A : Type 0} (xs : List A) → take (length xs) xs ≡ xs
take_all [] = refl
take_all (x ∷ xs) = ap (λ l. x ∷ l) (take_all xs)

one_less : (n : ℕ) → suc n - 1 ≡ n
one_less n = omega arith

pub split_up : {A : Type 0} (xs : List A) (x : A) → 1 ≤ length xs → x ≡ get_or xs 0 x
    → xs ≡ x ∷ take (length xs - 1) (drop 1 xs)
split_up [] x some is = absurd (omega arith)
split_up (y ∷ ys) x some is =
    ap (λ z. z ∷ ys) (sym is)
    ∙ ap (λ l. x ∷ l) (sym (ap (λ k. take k ys) (one_less (length ys)) ∙ take_all ys))

-- a list of values with one more
pub value_added : {A : Type 0} (xs : List A) (f : ℕ → A) (x : A) → Lists xs f → x ≡ f (length xs)
    → Lists (xs ++ x ∷ []) f
value_added xs f x has is = go xs f has is
  where
    go : {A : Type 0} {x : A} (xs : List A) (f : ℕ → A) → Lists xs f → x ≡ f (length xs) → Lists (xs ++ x ∷ []) f
    go [] f has is zero under = ap Some is
    go [] f has is (suc n) under = absurd (omega arith)
    go (y ∷ xs) f has is zero under = has 0 (omega arith)
    go (y ∷ xs) f has is (suc n) under =
        go xs (λ k. f (suc k)) (λ k l. has (suc k) (omega arith)) is n (omega arith)
