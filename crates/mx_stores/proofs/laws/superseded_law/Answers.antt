use Rattle.mx_stores.proofs.UntilLaws.{superseded_law}
use Rattle.mx_stores.proofs.laws.superseded_law.Goals as goal

pub returns : goal.returns
returns c = superseded_law
