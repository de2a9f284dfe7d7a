use Rattle.mx_request.proofs.GrowthLaws.{grown_last}
use Rattle.mx_request.proofs.writing.requests.push_entry.Goals as goal

pub returns-clause-err : goal.returns-clause-err
returns-clause-err c = grown_last c.push_field.result _ _ _ (_, c.in_ok-push_id.ensures.ok) c.push_field.ensures.err
