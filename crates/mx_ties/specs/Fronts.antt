-- What is known of traces at a point: how many events of each process.
use Rattle.std.specs.Prelude.{◌≡◌, ◌↔◌, ◌==◌, nat_le, max, Bool, true, false, ℕ, suc, ◌+◌, ◌<◌, ◌≤◌, List, [], ◌∷◌, Some, slice_get}
use Rattle.mx_ties.specs.Views.{Marked}

-- In a world a store is known at q where it lies among the first m events of its process's trace, m being the mark of
-- an entry of that process after the setup and at most q.
pub record IsCovered (start : ℕ) (history : List Marked) (u i q : ℕ) : Type 0 where
  pub place : ℕ
  pub marked : Marked
  pub at : slice_get history place ≡ Some marked
  pub own : marked.entry.process ≡ u
  pub within : start + suc place ≤ q
  pub under : i < marked.mark

-- how many events of process u's trace are known at q: the greatest mark of its entries up to q; the entries after
-- this number are given
abbrev pub mark_when : Bool → Bool → ℕ → ℕ
mark_when true true mark = mark
mark_when true false mark = 0
mark_when false within mark = 0

abbrev pub front_after : ℕ → List Marked → ℕ → ℕ → ℕ
front_after number [] u q = 0
front_after number (marked ∷ history) u q =
    max (mark_when (marked.entry.process == u) (nat_le (suc number) q) marked.mark)
    (front_after (suc number) history u q)

-- the one says what the other does
abbrev pub FrontLaw : Type 0
FrontLaw = (start : ℕ) (history : List Marked) (u i q : ℕ)
    → i < front_after start history u q ↔ IsCovered start history u i q
