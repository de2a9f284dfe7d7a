-- Helpers: names in one text, each behind a blank, which no name has.
use Rattle.std.specs.Prelude.{ℕ, ◌==◌, List, [], ◌∷◌}
use Rattle.std.specs.List.{flat_map, slice_split}

abbrev pub behind_blanks : List (List ℕ) → List ℕ
behind_blanks names = flat_map (λ name. 32 ∷ name) names

-- and back: the parts behind the first blank
abbrev pub between_blanks : List ℕ → List (List ℕ)
between_blanks [] = []
between_blanks (blank ∷ text) = slice_split (λ c. c == 32) text
