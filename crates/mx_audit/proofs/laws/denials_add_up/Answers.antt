use Rattle.mx_audit.proofs.AccountLaws.{with_both}
use Rattle.mx_audit.proofs.laws.denials_add_up.Goals as goal

pub returns : goal.returns
returns c = with_both
