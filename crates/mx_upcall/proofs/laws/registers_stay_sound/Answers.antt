use Rattle.mx_upcall.proofs.UpcallLaws.{upcalled_stays_sound, downreturned_stays_sound}
use Rattle.mx_upcall.proofs.laws.registers_stay_sound.Goals as goal

pub returns-clause-call : goal.returns-clause-call
returns-clause-call c = upcalled_stays_sound

pub returns-clause-ret : goal.returns-clause-ret
returns-clause-ret c = downreturned_stays_sound
