use Rattle.mx_request.proofs.GrowthLaws.{grown_from, grown_last, grown_on}
use Rattle.mx_request.proofs.writing.requests.push_seg.Goals as goal

pub returns-in_err-push_number-clause-err : goal.returns-in_err-push_number-clause-err
returns-in_err-push_number-clause-err c = grown_on _ _ _ _ (_, c.in_ok-push_path.ensures.ok) c.in_err-push_number.ensures.err

pub returns-clause-err : goal.returns-clause-err
returns-clause-err c = grown_last c.push_rings.result _ _ _ (grown_from _ _ _ _ c.in_ok-push_path.ensures.ok (_, c.in_ok-push_number.ensures.ok)) c.push_rings.ensures.err
