-- Helpers: what of an order is turned round for the next one.
use Rattle.std.specs.Prelude.{◌≡◌, ◌<◌, ◌≤◌, ℕ, List, [], ◌∷◌, ◌++◌, length, ⊤}
use Rattle.mx_outcomes.specs.Interleavings.{times}

-- all in the order are at least, or at most, this number
abbrev pub AreFrom : ℕ → List ℕ → Type 0
AreFrom p order = (q : ℕ) → 1 ≤ times q order → p ≤ q

abbrev pub AreUpTo : ℕ → List ℕ → Type 0
AreUpTo p order = (q : ℕ) → 1 ≤ times q order → q ≤ p

-- no number is above, or below, one that stands further back
abbrev pub IsRising : List ℕ → Type 0
IsRising [] = ⊤
IsRising (p ∷ order) = AreFrom p order × IsRising order

abbrev pub IsFalling : List ℕ → Type 0
IsFalling [] = ⊤
IsFalling (p ∷ order) = AreUpTo p order × IsFalling order

-- the last place of an order behind which a greater number stands: all behind it falls, and begins with a greater one
pub record IsPivot (order : List ℕ) (place : ℕ) : Type 0 where
  pub front : List ℕ
  pub pivot : ℕ
  pub head : ℕ
  pub tail : List ℕ
  pub order_is : order ≡ front ++ pivot ∷ head ∷ tail
  pub place_is : length front ≡ place
  pub above : pivot < head
  pub falling : IsFalling (head ∷ tail)

-- the first place in a rising list that holds a greater number than this
pub record IsSuccessor (order : List ℕ) (pivot place : ℕ) : Type 0 where
  pub low : List ℕ
  pub next : ℕ
  pub high : List ℕ
  pub order_is : order ≡ low ++ next ∷ high
  pub place_is : length low ≡ place
  pub above : pivot < next
  pub up_to : AreUpTo pivot low
