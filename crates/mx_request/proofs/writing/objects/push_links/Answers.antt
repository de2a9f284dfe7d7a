use Rattle.mx_request.proofs.GrowthLaws.{grown_on}
use Rattle.mx_request.proofs.writing.objects.push_links.Goals as goal

pub returns-in_err-push_link-clause-err : goal.returns-in_err-push_link-clause-err
returns-in_err-push_link-clause-err c = grown_on _ _ _ _ c.loop-name.invariant.grown c.in_err-push_link.ensures.err
