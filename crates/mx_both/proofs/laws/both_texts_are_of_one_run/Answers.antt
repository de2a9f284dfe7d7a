use Rattle.mx_both.proofs.BothLaws.{one_both}
use Rattle.mx_both.proofs.laws.both_texts_are_of_one_run.Goals as goal

pub returns : goal.returns
returns c = one_both
