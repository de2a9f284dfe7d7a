use Rattle.mx_stores.proofs.SinceLaws.{since_law}
use Rattle.mx_stores.proofs.laws.since_law.Goals as goal

pub returns : goal.returns
returns c = since_law
