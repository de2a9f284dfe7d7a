use Rattle.mx_check.proofs.JudgementLaws.{one_judgement}
use Rattle.mx_check.proofs.laws.bytes_have_one_judgement.Goals as goal

pub returns : goal.returns
returns c =
    one_judgement c.both_texts_are_of_one_run.ensures c.bytes_have_one_first_bad_line.ensures c.no_breach_law.ensures c.one_breach_law.ensures
