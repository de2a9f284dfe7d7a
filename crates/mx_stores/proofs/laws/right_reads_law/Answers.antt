use Rattle.mx_stores.proofs.ChoicesInOrder.{right_reads_law}
use Rattle.mx_stores.proofs.laws.right_reads_law.Goals as goal

pub returns : goal.returns
returns c = right_reads_law
