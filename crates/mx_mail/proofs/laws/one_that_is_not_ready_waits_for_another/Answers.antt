use Rattle.mx_mail.proofs.SleepingLaws.{awake_other}
use Rattle.mx_mail.proofs.laws.one_that_is_not_ready_waits_for_another.Goals as goal

pub returns : goal.returns
returns c = awake_other
