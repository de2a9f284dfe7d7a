use Rattle.mx_audit.proofs.AccountLaws.{room_for_each}
use Rattle.mx_audit.proofs.laws.room_for_the_most_is_enough.Goals as goal

pub returns : goal.returns
returns c = room_for_each
