use Rattle.mx_request.proofs.GrowthLaws.{grown_last}
use Rattle.mx_request.proofs.writing.replies.push_directory.Goals as goal

pub returns-clause-err : goal.returns-clause-err
returns-clause-err c = grown_last c.push_modes.result _ _ _ (_, c.in_ok-push_pair.ensures.ok) c.push_modes.ensures.err
