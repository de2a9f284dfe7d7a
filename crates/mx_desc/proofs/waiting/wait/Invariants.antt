use Rattle.std.proofs.Common.{◌≡◌}
use Rattle.mx_rule.specs.Seats.{super_of}
use Rattle.mx_desc.specs.Supers.{IsWaiting}
use Rattle.mx_desc.proofs.waiting.wait.Given as goal

abbrev pub invariant-loop : goal.invariant-loop
invariant-loop g l =
    IsWaiting (super_of l.initial.seat.seat.me.0) (super_of l.seat.seat.me.0)
    × (l.seat.seat.table_id ≡ l.initial.seat.seat.table_id) × (l.seat.layout ≡ l.initial.seat.layout)
