use Rattle.mx_access.specs.Passing.{IsAt}
use Rattle.mx_access.proofs.passing.go_to.Given as goal

abbrev pub invariant-loop-number : goal.invariant-loop-number
invariant-loop-number g l = IsAt l.session l.entries l.number (g.S.PlainSupervisor.state l.supervisor) l.uses
