use Rattle.std.proofs.Common.{refl}
use Rattle.mx_rule.specs.Seats.{super_of}
use Rattle.mx_desc.proofs.Waits.{waits_from}
use Rattle.mx_desc.proofs.waiting.wait.Goals as goal

pub loop-init : goal.loop-init
loop-init g c = (waits_from (super_of c.args.seat.now.seat.me.0), refl, refl)
