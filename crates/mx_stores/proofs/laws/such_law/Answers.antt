use Rattle.mx_stores.proofs.UntilLaws.{such_law}
use Rattle.mx_stores.proofs.laws.such_law.Goals as goal

pub returns : goal.returns
returns c = such_law
