use Rattle.mx_request.proofs.GrowthLaws.{grown_from, grown_last, grown_on}
use Rattle.mx_request.proofs.writing.replies.push_refusal.Goals as goal

pub returns-in_err-push_number-clause-err : goal.returns-in_err-push_number-clause-err
returns-in_err-push_number-clause-err c = grown_on _ _ _ _ (_, c.in_ok-extend_from_slice.ensures.items) c.in_err-push_number.ensures.err

pub returns-clause-err : goal.returns-clause-err
returns-clause-err c = grown_last c.push_field.result _ _ _ (grown_from _ _ _ _ c.in_ok-extend_from_slice.ensures.items (_, c.in_ok-push_number.ensures.ok)) c.push_field.ensures.err
