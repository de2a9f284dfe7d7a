use Rattle.mx_legal.proofs.BreachLaws.{one_breach_law}
use Rattle.mx_legal.proofs.laws.one_breach_law.Goals as goal

pub returns : goal.returns
returns c = one_breach_law c.front_law.ensures
