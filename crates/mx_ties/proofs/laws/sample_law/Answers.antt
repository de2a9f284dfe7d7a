use Rattle.mx_ties.proofs.Example.{sample}
use Rattle.mx_ties.proofs.laws.sample_law.Goals as goal

pub returns : goal.returns
returns c = sample
