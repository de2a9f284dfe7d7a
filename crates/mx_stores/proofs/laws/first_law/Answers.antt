use Rattle.mx_stores.proofs.UntilLaws.{first_law}
use Rattle.mx_stores.proofs.laws.first_law.Goals as goal

pub returns : goal.returns
returns c = first_law
