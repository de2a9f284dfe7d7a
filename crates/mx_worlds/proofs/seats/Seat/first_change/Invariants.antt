use Rattle.std.proofs.Common.{◌≡◌, ℕ, ◌<◌}
use Rattle.mx_worlds.specs.Shows.{Columns, ShowsSeat}
use Rattle.mx_worlds.proofs.seats.Seat.first_change.Given as goal

abbrev pub invariant-loop-segno : goal.invariant-loop-segno
invariant-loop-segno l = (n : ℕ) (c : Columns) → ShowsSeat n l.self c → (j : ℕ) → j < l.segno → c.present j ≡ c.before j
