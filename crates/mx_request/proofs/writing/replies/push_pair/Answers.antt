use Rattle.mx_request.proofs.GrowthLaws.{grown_from, grown_last, grown_on}
use Rattle.mx_request.proofs.writing.replies.push_pair.Goals as goal

pub returns-in_err-push_ring-clause-err : goal.returns-in_err-push_ring-clause-err
returns-in_err-push_ring-clause-err c = grown_on _ _ _ _ (_, c.in_ok-extend_from_slice.ensures.items) c.in_err-push_ring.ensures.err

pub returns-clause-err : goal.returns-clause-err
returns-clause-err c = grown_last c.push_ring-2.result _ _ _ (grown_from _ _ _ _ c.in_ok-extend_from_slice.ensures.items (_, c.in_ok-push_ring.ensures.ok)) c.push_ring-2.ensures.err
