use Rattle.mx_ties.proofs.Transport.{transport_law}
use Rattle.mx_ties.proofs.laws.transport_law.Goals as goal

pub returns : goal.returns
returns c = transport_law
