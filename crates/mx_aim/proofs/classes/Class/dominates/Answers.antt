use Rattle.mx_aim.proofs.DominanceLaws.{dominates_by_bits}
use Rattle.mx_aim.proofs.classes.Class.dominates.Goals as goal

pub returns-then-other-self : goal.returns-then-other-self
returns-then-other-self c = rw (← c.self.view_is, ← c.other.view_is) (dominates_by_bits
    (record { level = c.self.inside.level; categories = c.self.inside.categories })
    (record { level = c.other.inside.level; categories = c.other.inside.categories }) c.other.invariant c.if-other-self.true)
