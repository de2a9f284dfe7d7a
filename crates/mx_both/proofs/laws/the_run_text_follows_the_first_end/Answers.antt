use Rattle.mx_both.proofs.BothLaws.{behind_end}
use Rattle.mx_both.proofs.laws.the_run_text_follows_the_first_end.Goals as goal

pub returns : goal.returns
returns c = behind_end
