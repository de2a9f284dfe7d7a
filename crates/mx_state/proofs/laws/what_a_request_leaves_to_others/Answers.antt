use Rattle.mx_state.proofs.ToldLaws.{others_law, sections_stay_law}
use Rattle.mx_state.proofs.laws.what_a_request_leaves_to_others.Goals as goal

pub returns-clause-own : goal.returns-clause-own
returns-clause-own c = others_law

pub returns-clause-sections : goal.returns-clause-sections
returns-clause-sections c = sections_stay_law
