use Rattle.mx_access.proofs.GoodStates.{admissible}
use Rattle.mx_access.proofs.laws.descriptors_are_admissible.Goals as goal

pub returns : goal.returns
returns c = admissible
