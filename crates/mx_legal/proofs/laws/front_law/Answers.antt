use Rattle.mx_legal.proofs.FrontLaws.{front_law}
use Rattle.mx_legal.proofs.laws.front_law.Goals as goal

pub returns : goal.returns
returns c = front_law
