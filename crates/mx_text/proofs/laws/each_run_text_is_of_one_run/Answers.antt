use Rattle.mx_text.proofs.RunLaws.{one_run}
use Rattle.mx_text.proofs.laws.each_run_text_is_of_one_run.Goals as goal

pub returns : goal.returns
returns c = one_run
