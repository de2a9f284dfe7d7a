use Rattle.std.proofs.Common.{◌≡◌, ◌+◌, length}
use Rattle.mx_rule.specs.Seats.{super_of}
use Rattle.mx_desc.specs.Openings.{AreFreshPasses}
use Rattle.mx_desc.proofs.opening.seats.Given as goal

abbrev pub invariant-loop-dealt : goal.invariant-loop-dealt
invariant-loop-dealt g l =
    (super_of l.seat.seat.me.0 ≡ record (super_of l.initial.seat.seat.me.0) { next = l.dealt + 1 })
    × AreFreshPasses g.B.Naming.start 1 l.passes × (length l.passes ≡ l.dealt)
    × (l.seat.seat.table_id ≡ g.B.Naming.table) × (l.seat.layout ≡ g.B.Naming.layout)
    × (l.rest.parts + l.dealt ≡ g.B.Naming.layout.processes) × (l.rest.amount ≡ 0)
