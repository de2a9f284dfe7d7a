use Rattle.mx_state.proofs.LeavingLaws.{refused_serves_still}
use Rattle.mx_state.proofs.ToldLaws.{linked_within}
use Rattle.mx_state.proofs.states.State.apply.Goals as goal

pub returns-clause-refused : goal.returns-clause-refused
returns-clause-refused c =
    refused_serves_still c.args.self.now c.serve.new.self c.args.p c.args.ring c.args.request.now c.in_ok-applied.applied c.in_ok-applied.ensures.served

pub returns-clause-linked : goal.returns-clause-linked
returns-clause-linked c =
    linked_within c.args.self.now c.args.p c.args.ring c.args.request.now _ c.in_ok-applied.ensures.served.as_meant
    c.in_ok-applied.ensures.linked
