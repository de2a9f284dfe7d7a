use Rattle.mx_upcall.proofs.UpcallLaws.{upcalled_stays_packable, downreturned_stays_packable}
use Rattle.mx_upcall.proofs.laws.registers_stay_packable.Goals as goal

pub returns-clause-call : goal.returns-clause-call
returns-clause-call c = upcalled_stays_packable

pub returns-clause-ret : goal.returns-clause-ret
returns-clause-ret c = downreturned_stays_packable
