use Rattle.mx_request.proofs.GrowthLaws.{grown_last}
use Rattle.mx_request.proofs.writing.replies.push_brackets.Goals as goal

pub returns-clause-err : goal.returns-clause-err
returns-clause-err c = grown_last c.push_rings.result _ _ _ (_, c.in_ok-extend_from_slice.ensures.items) c.push_rings.ensures.err
