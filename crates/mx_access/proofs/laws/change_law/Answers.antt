use Rattle.mx_access.proofs.ChangeLaws.{changed}
use Rattle.mx_access.proofs.laws.change_law.Goals as goal

pub returns : goal.returns
returns c = changed
