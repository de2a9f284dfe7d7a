use Rattle.mx_effring.proofs.ChainLaws.{never_below_current, never_falls}
use Rattle.mx_effring.proofs.laws.effective_ring_never_falls.Goals as goal

pub returns-clause-above_current : goal.returns-clause-above_current
returns-clause-above_current c = never_below_current

pub returns-clause-rises : goal.returns-clause-rises
returns-clause-rises c = never_falls
