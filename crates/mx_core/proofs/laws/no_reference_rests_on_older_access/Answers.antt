use Rattle.mx_core.proofs.RevocationLaws.{private_memory_law, revocation_law}
use Rattle.mx_core.proofs.laws.no_reference_rests_on_older_access.Goals as goal

pub returns : goal.returns
returns c = record { revocation = revocation_law; private_memory = private_memory_law }
