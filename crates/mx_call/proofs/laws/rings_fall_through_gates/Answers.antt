use Rattle.mx_call.proofs.RegisterLaws.{never_raised, through_a_gate}
use Rattle.mx_call.proofs.laws.rings_fall_through_gates.Goals as goal

pub returns-clause-never_raised : goal.returns-clause-never_raised
returns-clause-never_raised c = never_raised

pub returns-clause-gate : goal.returns-clause-gate
returns-clause-gate c = through_a_gate
