use Rattle.mx_call.proofs.RegisterLaws.{exactly_called}
use Rattle.mx_call.proofs.laws.registers_have_one_outcome.Goals as goal

pub returns-clause-call : goal.returns-clause-call
returns-clause-call c = exactly_called
