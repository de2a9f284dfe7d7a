-- Interleavings: the orders in which the lines of several processes may come. An order has for each line its process.
use Rattle.std.specs.Prelude.{◌≡◌, ◌<◌, ◌⊎◌, ℕ, zero, suc, ◌==◌, if◌then◌else◌, List, [], ◌∷◌, get_or}

-- how often a process stands in an order
abbrev pub times : ℕ → List ℕ → ℕ
times p [] = 0
times p (q ∷ order) = if q == p then suc (times p order) else times p order

-- how many lines process 1, 2, .. has, where these are their numbers of lines; no other has any
abbrev pub lines_of : List ℕ → ℕ → ℕ
lines_of counts zero = 0
lines_of counts (suc place) = get_or counts place 0

-- each process stands in it as often as it has lines, and nothing else does
abbrev pub IsInterleaving : List ℕ → List ℕ → Type 0
IsInterleaving counts order = (p : ℕ) → times p order ≡ lines_of counts p

-- one order comes before another: where they first differ, it has the lower number
abbrev pub ComesBefore : List ℕ → List ℕ → Type 0
ComesBefore (p ∷ order) (q ∷ other) = (p < q) ⊎ ((p ≡ q) × ComesBefore order other)
ComesBefore _ _ = ⊥

-- the same processes as often
abbrev pub IsArrangement : List ℕ → List ℕ → Type 0
IsArrangement order other = (p : ℕ) → times p order ≡ times p other

-- the next arrangement after an order is the first of those that it comes before
pub record IsNext (order next : List ℕ) : Type 0 where
  pub arrangement : IsArrangement order next
  pub after : ComesBefore order next
  pub least : (other : List ℕ) → IsArrangement order other → ComesBefore order other → ComesBefore other next → ⊥

-- it comes before no arrangement
abbrev pub IsLast : List ℕ → Type 0
IsLast order = (other : List ℕ) → IsArrangement order other → ComesBefore order other → ⊥

-- none comes before it
abbrev pub IsFirst : List ℕ → Type 0
IsFirst order = (other : List ℕ) → IsArrangement order other → ComesBefore other order → ⊥
