use Rattle.mx_stores.proofs.SightedLaws.{beyond_law}
use Rattle.mx_stores.proofs.laws.beyond_law.Goals as goal

pub returns : goal.returns
returns c = beyond_law
