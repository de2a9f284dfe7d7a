-- Helpers: how the first condition that fails is named, and of several pairs, processes or pages the first.
use Rattle.std.specs.Prelude.{◌≡◌, ◌⊎◌, ℕ, ◌<◌}
use Rattle.mx_core.specs.declared.steps.Cause.{Cause}

-- this condition fails, and the cause is named for it, or it holds and a later one fails
abbrev pub First : Type 0 → Type 0 → Type 0 → Type 0
First condition named later = ((condition → ⊥) × named) ⊎ (condition × later)

-- the first number at which it fails
pub record IsFirstNot (holds : ℕ → Type 0) (i : ℕ) : Type 0 where
  pub fails : holds i → ⊥
  pub before : (j : ℕ) → j < i → holds j

-- the cause names that number
pub record NamesFirst (holds : ℕ → Type 0) (named : ℕ → Cause) (why : Cause) : Type 0 where
  pub at : ℕ
  pub is : why ≡ named at
  pub first : IsFirstNot holds at

-- the first pair at which it fails: of the first process that has one its first number
pub record IsFirstPairNot (holds : ℕ → ℕ → Type 0) (p n : ℕ) : Type 0 where
  pub first : IsFirstNot (holds p) n
  pub before : (q m : ℕ) → q < p → holds q m

-- the cause names the first pair at which it fails: of the first process that has one its first number
pub record NamesFirstPair (holds : ℕ → ℕ → Type 0) (named : ℕ → ℕ → Cause) (why : Cause) : Type 0 where
  pub process : ℕ
  pub segno : ℕ
  pub is : why ≡ named process segno
  pub first : IsFirstNot (holds process) segno
  pub before : (p n : ℕ) → p < process → holds p n
