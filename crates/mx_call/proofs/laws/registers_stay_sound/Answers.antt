use Rattle.mx_call.proofs.RegisterLaws.{called_stays_sound, returned_stays_sound, loaded_stays_sound}
use Rattle.mx_call.proofs.laws.registers_stay_sound.Goals as goal

pub returns-clause-call : goal.returns-clause-call
returns-clause-call c = called_stays_sound

pub returns-clause-ret : goal.returns-clause-ret
returns-clause-ret c = returned_stays_sound

pub returns-clause-load : goal.returns-clause-load
returns-clause-load c = loaded_stays_sound
