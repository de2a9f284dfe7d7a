-- What a search over numbers knows after one number more.
use Rattle.std.proofs.Common.{◌≡◌, inl, inr, ℕ, ◌+◌, ◌<◌, Bool, true, false, subst, sym, arith}
use Rattle.std.specs.Prelude.{MatchBool}
use Rattle.std.proofs.lemmas.Bool.{cases_eq}

pub one_more : (P : ℕ → Type 0) (k : ℕ) → ((j : ℕ) → j < k → P j) → P k → (j : ℕ) → j < k + 1 → P j
one_more P k before here j under = elim (cases_eq j k) [
  | inl e ↦ subst P (sym e) here
  | inr n ↦ before j (omega arith)
]

-- what a test says where it answers yes, and where it answers no
pub yes_by : (P : Type 0) (b : Bool) → b ≡ true → MatchBool b P (P → ⊥) → P
yes_by P true e h = h
yes_by P false e h = cc

pub not_by : (P : Type 0) (b : Bool) → b ≡ false → MatchBool b P (P → ⊥) → P → ⊥
not_by P true e h = cc
not_by P false e h = h
