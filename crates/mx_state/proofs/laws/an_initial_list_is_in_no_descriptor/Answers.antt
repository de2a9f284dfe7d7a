use Rattle.mx_state.proofs.InitialLaws.{delete_initial_law, set_initial_law}
use Rattle.mx_state.proofs.laws.an_initial_list_is_in_no_descriptor.Goals as goal

pub returns-clause-set : goal.returns-clause-set
returns-clause-set c = set_initial_law

pub returns-clause-deleted : goal.returns-clause-deleted
returns-clause-deleted c = delete_initial_law
