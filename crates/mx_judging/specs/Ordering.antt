-- Helpers of the ordering: how many moments of each process are told, and which of the others comes next.
use Rattle.std.specs.Prelude.{◌≡◌, ℕ, zero, suc, ◌+◌, ◌-◌, ◌≤◌, ◌<◌, List, [], ◌∷◌, map, length, get_or, ◌⊎◌, Option, Some, None, IfSome}
use Rattle.std.specs.List.{range_with_len}
use Rattle.mx_judging.specs.Stories.{NeverFalls, Times, places_of, time_in}
use Rattle.mx_judging.specs.declared.order.Choice.{Choice}
use Rattle.mx_judging.specs.declared.order.Turn.{Turn}

-- so many of each process are told, and all are
pub record AreAllTold (times : Times) (told : List ℕ) : Type 0 where
  pub each : (p : ℕ) → length (get_or times p []) ≤ get_or told p 0

-- a process has a moment that is to be told
pub record HasMore (times : Times) (told : List ℕ) (p : ℕ) : Type 0 where
  pub more : get_or told p 0 < length (get_or times p [])

-- the time of the next one of a process
abbrev pub next_time : Times → List ℕ → ℕ → ℕ
next_time times told p = get_or (get_or times p []) (get_or told p 0) 0

-- a process has one, and none that another process has next is earlier
pub record IsEarliest (times : Times) (told : List ℕ) (p : ℕ) : Type 0 where
  pub has : HasMore times told p
  pub first : (q : ℕ) → HasMore times told q → next_time times told p ≤ next_time times told q

-- So many of each process are told, by these turns: none is later than one that is to be told.
pub record IsSoFar (times : Times) (told : List ℕ) (turns : List Turn) : Type 0 where
  pub count : length told ≡ length times
  pub merged : (p : ℕ) → places_of p turns ≡ range_with_len 0 (get_or told p 0)
  pub within : (p : ℕ) → get_or told p 0 ≤ length (get_or times p [])
  pub never : NeverFalls (map (time_in times) turns)
  pub before : (i q : ℕ) → i < length turns → HasMore times told q → get_or (map (time_in times) turns) i 0 ≤ next_time times told q

-- how many are left to be told
abbrev pub left_of : Times → List ℕ → ℕ
left_of [] told = 0
left_of (times ∷ others) [] = 0
left_of (times ∷ others) (count ∷ told) = (length times - count) + left_of others told

-- this is the next moment of a process, or it has none
abbrev pub IsNext : Times → List ℕ → ℕ → Option Choice → Type 0
IsNext times told p None = HasMore times told p → ⊥
IsNext times told p (Some choice) =
    (choice.process ≡ p) × HasMore times told p × (choice.time ≡ next_time times told p)

-- of two it is one, and neither is earlier
abbrev pub IsSooner : Option Choice → Option Choice → Option Choice → Type 0
IsSooner best next None = (best ≡ None) × (next ≡ None)
IsSooner best next (Some choice) =
    ((best ≡ Some choice) ⊎ (next ≡ Some choice)) × IfSome best (λ one. choice.time ≤ one.time)
    × IfSome next (λ one. choice.time ≤ one.time)

-- of the first so many processes this is the earliest, or none has one
pub record IsSoonestOf (times : Times) (told : List ℕ) (n : ℕ) (choice : Choice) : Type 0 where
  pub has : HasMore times told choice.process
  pub time : choice.time ≡ next_time times told choice.process
  pub first : (q : ℕ) → q < n → HasMore times told q → choice.time ≤ next_time times told q

abbrev pub IsSoonest : Times → List ℕ → ℕ → Option Choice → Type 0
IsSoonest times told n None = (q : ℕ) → q < n → HasMore times told q → ⊥
IsSoonest times told n (Some choice) = IsSoonestOf times told n choice
