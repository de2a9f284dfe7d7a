use Rattle.mx_legal.specs.Deciding.{HasNoEntryFrom}
use Rattle.mx_legal.proofs.fronts.first_entered.Given as goal

abbrev pub invariant-loop-place : goal.invariant-loop-place
invariant-loop-place l = HasNoEntryFrom l.lines l.from l.place
