use Rattle.std.proofs.Common.{length}
use Rattle.mx_show.specs.Printing.{IsToldBehind}
use Rattle.mx_show.proofs.lines.adding.add_told.Given as goal

-- words so far stand behind what stood there
abbrev pub invariant-loop-line : goal.invariant-loop-line
invariant-loop-line l = IsToldBehind l.initial.out.items l.out.items

-- the bytes that are left
abbrev pub decreases-loop-line : goal.decreases-loop-line
decreases-loop-line l = length l.rest
