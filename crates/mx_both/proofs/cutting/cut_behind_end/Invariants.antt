use Rattle.std.proofs.Common.{length}
use Rattle.mx_both.specs.Cutting.{HasPassed}
use Rattle.mx_both.proofs.cutting.cut_behind_end.Given as goal

abbrev pub invariant-loop-line : goal.invariant-loop-line
invariant-loop-line l = HasPassed l.bytes l.rest l.lines

abbrev pub decreases-loop-line : goal.decreases-loop-line
decreases-loop-line l = length l.rest
