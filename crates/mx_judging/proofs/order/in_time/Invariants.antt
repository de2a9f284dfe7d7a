use Rattle.mx_judging.specs.Stories.{times_of}
use Rattle.mx_judging.specs.Ordering.{IsSoFar, left_of}
use Rattle.mx_judging.proofs.order.in_time.Given as goal

-- what is told so far
abbrev pub invariant-loop-process : goal.invariant-loop-process
invariant-loop-process l = IsSoFar (times_of l.courses) l.told.items l.turns.items

-- the moments that are left to be told
abbrev pub decreases-loop-process : goal.decreases-loop-process
decreases-loop-process l = left_of (times_of l.courses) l.told.items
