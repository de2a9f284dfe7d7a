use Rattle.std.proofs.Common.{length}
use Rattle.mx_rule.proofs.opening.+put_base.Given as goal

abbrev pub decreases-put_base : goal.decreases-put_base
decreases-put_base l = length l.base.now
