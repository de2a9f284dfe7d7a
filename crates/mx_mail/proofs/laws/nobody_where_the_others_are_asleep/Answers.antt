use Rattle.mx_mail.proofs.SleepingLaws.{nobody_is}
use Rattle.mx_mail.proofs.laws.nobody_where_the_others_are_asleep.Goals as goal

pub returns : goal.returns
returns c = nobody_is
