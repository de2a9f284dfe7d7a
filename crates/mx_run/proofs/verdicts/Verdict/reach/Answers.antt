use Rattle.mx_audit.proofs.AccountLaws.{grown_none}
use Rattle.mx_run.proofs.VerdictLaws.{of_words}
use Rattle.mx_run.proofs.verdicts.Verdict.reach.Goals as goal

pub returns-in-Run-clause-right : goal.returns-in-Run-clause-right
returns-in-Run-clause-right g c = of_words _ _ _ _ _ _ c.of_source.result c.in-Run.ensures c.of_source.ensures.right

pub returns-in_ok-judgement-in-Check-clause-grown : goal.returns-in_ok-judgement-in-Check-clause-grown
returns-in_ok-judgement-in-Check-clause-grown g c = grown_none _

pub returns-in_err-judgement-in-Check-clause-grown : goal.returns-in_err-judgement-in-Check-clause-grown
returns-in_err-judgement-in-Check-clause-grown g c = grown_none _

pub returns-in-Other-clause-grown : goal.returns-in-Other-clause-grown
returns-in-Other-clause-grown g c = grown_none _
