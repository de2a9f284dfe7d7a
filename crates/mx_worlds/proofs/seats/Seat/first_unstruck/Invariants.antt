use Rattle.std.proofs.Common.{ℕ, ◌<◌}
use Rattle.mx_worlds.specs.Seating.{IsStruckIn}
use Rattle.mx_worlds.specs.Shows.{Columns, ShowsSeat}
use Rattle.mx_worlds.proofs.seats.Seat.first_unstruck.Given as goal

abbrev pub invariant-loop-segno : goal.invariant-loop-segno
invariant-loop-segno l = (n : ℕ) (c : Columns) → ShowsSeat n l.self c → (j : ℕ) → j < l.segno → IsStruckIn c l.count j
