-- All orders of the lines of processes, each once.
use Rattle.std.specs.Prelude.{◌≡◌, ◌⊎◌, ℕ, List, [], ◌∷◌, ⊤}
use Rattle.mx_outcomes.specs.Interleavings.{IsInterleaving, IsNext, ComesBefore}

abbrev pub IsAmong : List ℕ → List (List ℕ) → Type 0
IsAmong order [] = ⊥
IsAmong order (other ∷ orders) = (order ≡ other) ⊎ IsAmong order orders

abbrev pub AreInterleavings : List ℕ → List (List ℕ) → Type 0
AreInterleavings counts [] = ⊤
AreInterleavings counts (order ∷ orders) = IsInterleaving counts order × AreInterleavings counts orders

-- each comes before the one behind it
abbrev pub AreRising : List (List ℕ) → Type 0
AreRising [] = ⊤
AreRising (order ∷ []) = ⊤
AreRising (order ∷ next ∷ orders) = ComesBefore order next × AreRising (next ∷ orders)

-- Of processes that have so many lines each, these are the orders: each one is among them, and no other, and none stands twice, since
-- they rise.
pub record AreAllOrders (counts : List ℕ) (orders : List (List ℕ)) : Type 0 where
  pub each : AreInterleavings counts orders
  pub all : (order : List ℕ) → IsInterleaving counts order → IsAmong order orders
  pub rising : AreRising orders

-- Helper: these orders follow one another, the next behind each, from this one on; that one is the next behind the last.
abbrev pub Follow : List ℕ → List (List ℕ) → List ℕ → Type 0
Follow first [] after = first ≡ after
Follow first (order ∷ orders) after = (order ≡ first) × ((next : List ℕ) × (IsNext first next × Follow next orders after))
