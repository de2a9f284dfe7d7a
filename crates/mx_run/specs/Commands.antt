-- The words of a command line that are accepted: `run`, `drill` with a number, and `check`.
use Rattle.std.specs.Prelude.{◌≡◌, ◌⊎◌, ℕ, List, [], ◌∷◌, codes}
use Rattle.mx_drill.specs.Numbers.{IsNumber}

-- the words of a command that runs the session of the source
abbrev pub IsRun : List (List ℕ) → Type 0
IsRun words = words ≡ codes "run" ∷ []

-- the words of a command that runs the drill of a number
pub record IsDrill (words : List (List ℕ)) (number : ℕ) : Type 0 where
  pub digits : List ℕ
  pub words_are : words ≡ codes "drill" ∷ digits ∷ []
  pub spelled : IsNumber digits number

-- the words of a command that checks the session of the source, and the run behind it
abbrev pub IsCheck : List (List ℕ) → Type 0
IsCheck words = words ≡ codes "check" ∷ []

-- the words of a command
abbrev pub IsAccepted : List (List ℕ) → Type 0
IsAccepted words = IsRun words ⊎ (((number : ℕ) × IsDrill words number) ⊎ IsCheck words)

-- the words of a command that reads the source
abbrev pub IsReading : List (List ℕ) → Type 0
IsReading words = IsRun words ⊎ IsCheck words
