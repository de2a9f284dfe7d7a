use Rattle.mx_state.proofs.LeavingLaws.{refusal_leaves, path_request_leaves}
use Rattle.mx_state.proofs.laws.what_a_request_leaves.Goals as goal

pub returns-clause-refused : goal.returns-clause-refused
returns-clause-refused c = refusal_leaves

pub returns-clause-on_path : goal.returns-clause-on_path
returns-clause-on_path c = path_request_leaves
