-- Helpers: where the row of these outcomes stands.
use Rattle.std.specs.Prelude.{◌≡◌, ℕ, true, false, List, [], ◌∷◌, ◌++◌, length, ⊤}
use Rattle.mx_outcomes.specs.Tallies.{is_of}
use Rattle.mx_outcomes.specs.declared.tallies.Row.{Row}

-- no row has them
abbrev pub IsNew : List (List ℕ) → List Row → Type 0
IsNew outcomes [] = ⊤
IsNew outcomes (row ∷ rows) = (is_of outcomes row ≡ false) × IsNew outcomes rows

-- none before it has them
pub record IsPlace (outcomes : List (List ℕ)) (rows : List Row) (place : ℕ) : Type 0 where
  pub before : List Row
  pub row : Row
  pub after : List Row
  pub rows_are : rows ≡ before ++ row ∷ after
  pub place_is : length before ≡ place
  pub same : is_of outcomes row ≡ true
  pub others : IsNew outcomes before
