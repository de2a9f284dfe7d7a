use Rattle.mx_request.proofs.GrowthLaws.{grown_on}
use Rattle.mx_request.proofs.writing.requests.push_each_rule.Goals as goal

pub returns-in_err-push_rule-clause-err : goal.returns-in_err-push_rule-clause-err
returns-in_err-push_rule-clause-err c = grown_on _ _ _ _ c.loop-rule.invariant.grown c.in_err-push_rule.ensures.err
