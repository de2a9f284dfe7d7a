-- The seats of the processes as the opening deals them: one for each, in their order.
use Rattle.std.specs.Prelude.{◌≡◌, ℕ, ◌+◌, List, [], ◌∷◌}
use Rattle.atomic_table.specs.Seated.{TableId}
use Rattle.mx_rule.specs.declared.layout.Layout.{Layout}
use Rattle.mx_rule.specs.declared.passes.PassSeat.{PassSeat}
use Rattle.mx_rule.specs.Seats.{pass_of}
use Rattle.mx_rule.specs.Shown.{fresh_view}

-- the seat is this process's, at this table, and the process did nothing yet
pub record IsFresh {E : Type 0} (table : TableId) (y : Layout) (start p : ℕ) (s : PassSeat E) : Type 0 where
  pub view : pass_of s.seat.me.0 ≡ fresh_view start p
  pub place : s.seat.table_id ≡ table
  pub layout : s.layout ≡ y

-- the seats are those of the processes from this one on
abbrev pub AreDealt : {E : Type 0} → TableId → Layout → ℕ → ℕ → List (PassSeat E) → Type 0
AreDealt table y start p [] = Unit {0}
AreDealt table y start p (s ∷ rest) = IsFresh table y start p s × AreDealt table y start (p + 1) rest
