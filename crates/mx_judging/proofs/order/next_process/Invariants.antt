use Rattle.mx_judging.specs.Stories.{times_of}
use Rattle.mx_judging.specs.Ordering.{IsSoonest}
use Rattle.mx_judging.proofs.order.next_process.Given as goal

-- the soonest of the processes so far
abbrev pub invariant-loop-process : goal.invariant-loop-process
invariant-loop-process l = IsSoonest (times_of l.courses) l.told l.process l.best
