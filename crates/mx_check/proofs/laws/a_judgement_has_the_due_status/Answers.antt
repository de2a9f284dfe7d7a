use Rattle.mx_check.proofs.JudgementLaws.{due_status}
use Rattle.mx_check.proofs.laws.a_judgement_has_the_due_status.Goals as goal

pub returns : goal.returns
returns c = due_status c.both_texts_are_of_one_run.ensures c.no_breach_law.ensures
