use Rattle.std.proofs.Common.{◌≡◌, drop}
use Rattle.mx_script.specs.Sessions.{ends}
use Rattle.mx_script.proofs.outlines.ends.Given as goal

-- the test over all lines is the test over those that are left
abbrev pub invariant-loop-line : goal.invariant-loop-line
invariant-loop-line l = ends l.lines ≡ ends (drop l.line-index l.lines)
