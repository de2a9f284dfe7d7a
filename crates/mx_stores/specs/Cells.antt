-- Cells in order by their numbers, each once.
use Rattle.std.specs.Prelude.{◌≡◌, ℕ, ◌<◌, List, Some, slice_get}

-- each number is below all that stand after it
abbrev pub AreRising : List ℕ → Type 0
AreRising numbers = (j k m n : ℕ) → j < k → slice_get numbers j ≡ Some m → slice_get numbers k ≡ Some n → m < n

-- the number stands nowhere among these
abbrev pub IsAbsent : List ℕ → ℕ → Type 0
IsAbsent numbers number = (k : ℕ) → slice_get numbers k ≡ Some number → ⊥

-- the number stands somewhere among these
pub record IsPresent (numbers : List ℕ) (number : ℕ) : Type 0 where
  pub at : ℕ
  pub is : slice_get numbers at ≡ Some number
