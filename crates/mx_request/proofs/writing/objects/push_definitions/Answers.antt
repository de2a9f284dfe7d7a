use Rattle.mx_request.proofs.GrowthLaws.{grown_on}
use Rattle.mx_request.proofs.writing.objects.push_definitions.Goals as goal

pub returns-in_err-push_definition-clause-err : goal.returns-in_err-push_definition-clause-err
returns-in_err-push_definition-clause-err c =
    grown_on _ _ _ _ c.loop-symbol.invariant.grown c.in_err-push_definition.ensures.err
