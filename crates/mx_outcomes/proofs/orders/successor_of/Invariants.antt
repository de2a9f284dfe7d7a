use Rattle.std.proofs.Common.{take}
use Rattle.mx_outcomes.specs.Turning.{AreUpTo}
use Rattle.mx_outcomes.proofs.orders.successor_of.Given as goal

abbrev pub invariant-loop-place : goal.invariant-loop-place
invariant-loop-place l = AreUpTo l.pivot (take l.place l.order)
