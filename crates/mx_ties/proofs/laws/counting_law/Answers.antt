use Rattle.mx_ties.proofs.Counts.{counting_law}
use Rattle.mx_ties.proofs.laws.counting_law.Goals as goal

pub returns : goal.returns
returns c = counting_law
