use Rattle.mx_outcomes.proofs.RunLaws.{all_of_some}
use Rattle.mx_outcomes.proofs.laws.each_row_is_of_a_run.Goals as goal

pub returns : goal.returns
returns c = λ places runs. all_of_some places runs
