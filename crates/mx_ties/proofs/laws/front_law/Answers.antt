use Rattle.mx_ties.proofs.Fronts.{front_law}
use Rattle.mx_ties.proofs.laws.front_law.Goals as goal

pub returns : goal.returns
returns c = front_law
