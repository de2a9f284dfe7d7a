use Rattle.mx_aim.proofs.DominanceLaws.{dominates_itself, dominates_lowest, dominates_onward, dominates_both_ways}
use Rattle.mx_aim.proofs.laws.dominance_is_an_order.Goals as goal

pub returns-clause-itself : goal.returns-clause-itself
returns-clause-itself c = dominates_itself

pub returns-clause-lowest : goal.returns-clause-lowest
returns-clause-lowest c = dominates_lowest

pub returns-clause-onward : goal.returns-clause-onward
returns-clause-onward c = dominates_onward

pub returns-clause-both_ways : goal.returns-clause-both_ways
returns-clause-both_ways c = dominates_both_ways
