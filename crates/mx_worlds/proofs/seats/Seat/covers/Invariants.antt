use Rattle.std.proofs.Common.{◌≡◌, ℕ, ◌<◌, true}
use Rattle.mx_core.specs.Pages.{covers}
use Rattle.mx_worlds.specs.Shows.{Columns, ShowsSeat}
use Rattle.mx_worlds.proofs.seats.Seat.covers.Given as goal

abbrev pub invariant-loop-desc : goal.invariant-loop-desc
invariant-loop-desc l = (n : ℕ) (c : Columns) → ShowsSeat n l.self c → (j : ℕ) → j < l.desc-index
    → covers (c.present j) l.page ≡ true → ⊥
