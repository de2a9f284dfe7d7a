use Rattle.mx_hier.proofs.hier.Hier.+walk.Given as goal

abbrev pub decreases-walk : goal.decreases-walk
decreases-walk l = l.left
