use Rattle.mx_fresh.proofs.hierarchy.FreshHierarchy.+walk.Given as goal

abbrev pub decreases-walk : goal.decreases-walk
decreases-walk l = l.left
