use Rattle.mx_outcomes.proofs.RunLaws.{all_counted}
use Rattle.mx_outcomes.proofs.laws.each_run_is_counted.Goals as goal

pub returns : goal.returns
returns c = λ places runs. all_counted places runs
