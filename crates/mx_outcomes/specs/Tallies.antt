-- What some lines came to together in many runs: their different outcomes, in the order in which they came first, each with the order of
-- the first run that gave it and with how many runs did.
use Rattle.std.specs.Prelude.{ℕ, ◌+◌, ◌==◌, Bool, List, [], ◌∷◌, map, get_or, if◌then◌else◌}
use Rattle.std.specs.Cmp.Lexicographic.{pointwise}
use Rattle.std.specs.List.{fold}
use Rattle.mx_outcomes.specs.declared.tallies.Row.{Row}

-- of a run: the order of its lines, and what each line came to
abbrev pub Told : Type 0
Told = List ℕ × List (List ℕ)

-- what the lines at these places came to
abbrev pub outcomes_at : List ℕ → List (List ℕ) → List (List ℕ)
outcomes_at places outcomes = map (λ place. get_or outcomes place []) places

abbrev pub is_of : List (List ℕ) → Row → Bool
is_of outcomes row = pointwise (pointwise ◌==◌) row.outcomes outcomes

-- outcomes that come first in this order, and ones that come again
abbrev pub first_row : List ℕ → List (List ℕ) → Row
first_row order outcomes = record { outcomes = outcomes; first = order; times = 1 }

abbrev pub again : Row → Row
again row = record { outcomes = row.outcomes; first = row.first; times = row.times + 1 }

-- a run in this order more, in which they came to this
abbrev pub counted : List ℕ → List (List ℕ) → List Row → List Row
counted order outcomes [] = first_row order outcomes ∷ []
counted order outcomes (row ∷ rows) = if is_of outcomes row then again row ∷ rows else row ∷ counted order outcomes rows

abbrev pub add_run : List ℕ → List Row → Told → List Row
add_run places rows run = counted run.0 (outcomes_at places run.1) rows

-- what the lines at these places came to in these runs, the first run first
abbrev pub rows_of : List ℕ → List Told → List Row
rows_of places runs = fold (add_run places) [] runs

-- lines, and what they came to
pub record Tallied : Type 0 where
  pub places : List ℕ
  pub rows : List Row

abbrev pub tallied : List ℕ → List Row → Tallied
tallied places rows = record { places = places; rows = rows }

abbrev pub with_run : Told → Tallied → Tallied
with_run run tally = tallied tally.places (add_run tally.places tally.rows run)

abbrev pub tally_of : List Told → List ℕ → Tallied
tally_of runs places = tallied places (rows_of places runs)
