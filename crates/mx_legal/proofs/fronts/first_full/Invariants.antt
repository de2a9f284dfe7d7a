use Rattle.mx_legal.specs.Deciding.{HasNoFullTo}
use Rattle.mx_legal.proofs.fronts.first_full.Given as goal

abbrev pub invariant-loop-place : goal.invariant-loop-place
invariant-loop-place l = HasNoFullTo l.lines l.place
