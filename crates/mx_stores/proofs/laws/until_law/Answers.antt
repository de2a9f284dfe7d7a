use Rattle.mx_stores.proofs.UntilLaws.{until_law}
use Rattle.mx_stores.proofs.laws.until_law.Goals as goal

pub returns : goal.returns
returns c = until_law
