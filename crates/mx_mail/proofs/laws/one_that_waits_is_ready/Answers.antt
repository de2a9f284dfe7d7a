use Rattle.mx_mail.proofs.SleepingLaws.{one_is_ready}
use Rattle.mx_mail.proofs.laws.one_that_waits_is_ready.Goals as goal

pub returns : goal.returns
returns c = one_is_ready
