use Rattle.mx_points.specs.Fronts.{AreSetupLinesTo}
use Rattle.mx_points.proofs.setup.first_bad_setup.Given as goal

-- the lines before are as they should be
abbrev pub invariant-loop-place : goal.invariant-loop-place
invariant-loop-place l = AreSetupLinesTo l.setup l.lines l.place
