use Rattle.mx_request.proofs.GrowthLaws.{grown_from, grown_last, grown_on}
use Rattle.mx_request.proofs.writing.fields.push_rings.Goals as goal

pub returns-in_err-push_ring-2-clause-err : goal.returns-in_err-push_ring-2-clause-err
returns-in_err-push_ring-2-clause-err c = grown_on _ _ _ _ (_, c.in_ok-push_ring.ensures.ok) c.in_err-push_ring-2.ensures.err

pub returns-clause-err : goal.returns-clause-err
returns-clause-err c = grown_last c.push_ring-3.result _ _ _ (grown_from _ _ _ _ c.in_ok-push_ring.ensures.ok (_, c.in_ok-push_ring-2.ensures.ok)) c.push_ring-3.ensures.err
