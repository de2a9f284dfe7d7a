use Rattle.std.proofs.Common.{rules}
use Rattle.mx_worlds.specs.Seating.{IsStruckIn}
use Rattle.mx_worlds.proofs.Searching.{one_more}
use Rattle.mx_worlds.proofs.seats.Seat.first_unstruck.Goals as goal

pub loop-segno-preserved : goal.loop-segno-preserved
loop-segno-preserved c n k shows =
    one_more (IsStruckIn k c.args.count) c.loop-segno.segno (c.loop-segno.invariant n k shows)
    (let t = c.is_unstruck.ensures n k shows in search rules)
