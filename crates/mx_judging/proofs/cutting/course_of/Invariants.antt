use Rattle.std.proofs.Common.{◌≡◌, ◌++◌}
use Rattle.mx_judging.specs.Cutting.{lines_begun, numbers_of}
use Rattle.mx_judging.proofs.cutting.course_of.Given as goal

-- the lines so far are begun, and those that are left come behind them
abbrev pub invariant-loop-number : goal.invariant-loop-number
invariant-loop-number l = lines_begun l.cutter.moments.items ++ numbers_of l.number-iterator ≡ numbers_of l.transcript
