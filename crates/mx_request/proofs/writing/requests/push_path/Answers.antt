use Rattle.mx_request.proofs.GrowthLaws.{grown_last}
use Rattle.mx_request.proofs.writing.requests.push_path.Goals as goal

pub returns-clause-err : goal.returns-clause-err
returns-clause-err c = grown_last c.push_pathname.result _ _ _ (_, c.in_ok-extend_from_slice.ensures.items) c.push_pathname.ensures.err
