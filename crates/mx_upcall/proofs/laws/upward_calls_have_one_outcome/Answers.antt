use Rattle.mx_upcall.proofs.UpcallLaws.{exactly_upcalled, exactly_downreturned}
use Rattle.mx_upcall.proofs.laws.upward_calls_have_one_outcome.Goals as goal

pub returns-clause-call : goal.returns-clause-call
returns-clause-call c = exactly_upcalled

pub returns-clause-ret : goal.returns-clause-ret
returns-clause-ret c = exactly_downreturned
