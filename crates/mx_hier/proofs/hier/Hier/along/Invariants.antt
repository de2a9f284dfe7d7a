use Rattle.std.proofs.Common.{◌≡◌, length}
use Rattle.mx_hier.specs.Walks.{along}
use Rattle.mx_hier.proofs.hier.Hier.along.Given as goal

abbrev pub invariant-loop-name : goal.invariant-loop-name
invariant-loop-name l = along l.self l.follow l.at l.rest ≡ along l.self l.follow l.fn.from l.fn.names

abbrev pub decreases-loop-name : goal.decreases-loop-name
decreases-loop-name l = length l.rest
