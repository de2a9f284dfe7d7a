-- What the rows of runs say of these runs.
use Rattle.std.specs.Prelude.{◌≡◌, ◌⊎◌, ℕ, ◌+◌, List, [], ◌∷◌, ⊤}
use Rattle.mx_outcomes.specs.Tallies.{Told, outcomes_at}
use Rattle.mx_outcomes.specs.declared.tallies.Row.{Row}

-- the run came in the first order of the row, and its lines at these places to the row's outcomes
abbrev pub IsOf : List ℕ → Row → Told → Type 0
IsOf places row run = (run.0 ≡ row.first) × (outcomes_at places run.1 ≡ row.outcomes)

-- one of the runs did
abbrev pub IsOfSome : List ℕ → List Told → Row → Type 0
IsOfSome places [] row = ⊥
IsOfSome places (run ∷ runs) row = IsOf places row run ⊎ IsOfSome places runs row

abbrev pub AreOfSome : List ℕ → List Told → List Row → Type 0
AreOfSome places runs [] = ⊤
AreOfSome places runs (row ∷ rows) = IsOfSome places runs row × AreOfSome places runs rows

-- how many runs the rows count together
abbrev pub all_times : List Row → ℕ
all_times [] = 0
all_times (row ∷ rows) = row.times + all_times rows
