use Rattle.mx_state.proofs.WaitingLaws.{one_runs, waits_for}
use Rattle.mx_state.proofs.laws.not_all_wait_for_one_another.Goals as goal

pub returns-clause-runs : goal.returns-clause-runs
returns-clause-runs c = one_runs

pub returns-clause-waits_for : goal.returns-clause-waits_for
returns-clause-waits_for c = waits_for
