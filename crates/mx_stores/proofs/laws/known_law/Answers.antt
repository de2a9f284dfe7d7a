use Rattle.mx_stores.proofs.SinceLaws.{known_law}
use Rattle.mx_stores.proofs.laws.known_law.Goals as goal

pub returns : goal.returns
returns c = known_law
