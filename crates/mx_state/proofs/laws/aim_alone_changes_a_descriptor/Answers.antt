use Rattle.mx_state.proofs.AimLaws.{other_class_law, aim_alone_law, aim_told_law}
use Rattle.mx_state.proofs.laws.aim_alone_changes_a_descriptor.Goals as goal

pub returns-clause-other : goal.returns-clause-other
returns-clause-other c = other_class_law

pub returns-clause-alone : goal.returns-clause-alone
returns-clause-alone c = aim_alone_law

pub returns-clause-told : goal.returns-clause-told
returns-clause-told c = aim_told_law
