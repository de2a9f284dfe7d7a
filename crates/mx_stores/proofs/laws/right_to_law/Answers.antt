use Rattle.mx_stores.proofs.ChoicesInOrder.{right_to_law}
use Rattle.mx_stores.proofs.laws.right_to_law.Goals as goal

pub returns : goal.returns
returns c = right_to_law
