use Rattle.mx_stores.proofs.WholeRuns.{one_breach_law}
use Rattle.mx_stores.proofs.laws.one_breach_law.Goals as goal

pub returns : goal.returns
returns c = one_breach_law
