use Rattle.mx_ties.proofs.Finishes.{finished_law}
use Rattle.mx_ties.proofs.laws.finished_law.Goals as goal

pub returns : goal.returns
returns c = finished_law
