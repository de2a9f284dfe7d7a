use Rattle.mx_legal.proofs.ReadLaws.{reads_to_law}
use Rattle.mx_legal.proofs.laws.reads_to_law.Goals as goal

pub returns : goal.returns
returns c = reads_to_law
