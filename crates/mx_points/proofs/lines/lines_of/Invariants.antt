use Rattle.std.proofs.Common.{◌≡◌, ◌++◌}
use Rattle.mx_points.proofs.lines.lines_of.Given as goal

-- the lines before, and those that are left
abbrev pub invariant-loop-number : goal.invariant-loop-number
invariant-loop-number l = l.lines.items ++ l.number-iterator ≡ l.transcript
