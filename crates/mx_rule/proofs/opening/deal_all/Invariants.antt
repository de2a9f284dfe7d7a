use Rattle.std.proofs.Common.{◌≡◌, ◌+◌, length}
use Rattle.mx_rule.specs.Dealt.{AreDealt}
use Rattle.mx_rule.specs.Seats.{super_of}
use Rattle.mx_rule.proofs.opening.deal_all.Given as goal

abbrev pub invariant-loop-dealt : goal.invariant-loop-dealt
invariant-loop-dealt g l =
    (super_of l.chief.seat.me.0 ≡ record (super_of l.initial.chief.seat.me.0) { next = l.dealt + 1 })
    × AreDealt l.initial.chief.seat.table_id l.initial.chief.layout (super_of l.initial.chief.seat.me.0).start 1 l.seats
    × (length l.seats ≡ l.dealt) × (l.chief.seat.table_id ≡ l.initial.chief.seat.table_id)
    × (l.chief.layout ≡ l.initial.chief.layout)
