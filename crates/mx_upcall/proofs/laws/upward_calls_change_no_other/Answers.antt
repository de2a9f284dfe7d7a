use Rattle.mx_upcall.proofs.UpcallLaws.{judged_alike}
use Rattle.mx_upcall.proofs.laws.upward_calls_change_no_other.Goals as goal

pub returns : goal.returns
returns c = judged_alike
