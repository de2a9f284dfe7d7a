use Rattle.mx_effring.proofs.ChainLaws.{is_one_of_them, none_is_above}
use Rattle.mx_effring.proofs.laws.effective_ring_is_the_largest.Goals as goal

pub returns-clause-one : goal.returns-clause-one
returns-clause-one c = is_one_of_them

pub returns-clause-none_above : goal.returns-clause-none_above
returns-clause-none_above c = none_is_above
