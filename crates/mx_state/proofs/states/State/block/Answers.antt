use Rattle.mx_request.specs.declared.requests.Request.TheVariants as ask
use Rattle.mx_state.specs.Messages.{block}
use Rattle.mx_state.proofs.AnswerLaws.{plain_state, of_old}
use Rattle.mx_state.proofs.MessageLaws.{block_is, mail_holds, mail_serves}
use Rattle.mx_state.proofs.states.State.block.Goals as goal

pub invariant_of-self : goal.invariant_of-self
invariant_of-self c =
    let s = c.self.inside in
    mail_holds s.version s.hier s.mail c.take-taken.new.self s.processes.items s.initializer s.root c.take-taken.ensures.count
    c.self.invariant

pub returns-clause-served : goal.returns-clause-served
returns-clause-served c =
    let s = c.self.inside in
    let old = plain_state s.version s.hier s.mail s.processes.items in
    let in_range = rw (← c.self.view_is) at c.requires.process in
    of_old s.version s.hier s.mail s.processes.items _ _ c.args.p c.args.ring ask.Block c.unchanged.result c.self.view_is
    (mail_serves s.version s.hier s.mail c.take-taken.new.self s.processes.items c.args.p (block old c.args.p)
    c.taken_reply.result c.unchanged.result
    c.requires.some in_range
    (block_is old c.args.p c.take-taken.result c.take-taken.new.self c.taken_reply.result c.take-taken.ensures.answer
    c.taken_reply.ensures)
    c.unchanged.ensures)

pub returns-clause-resumed : goal.returns-clause-resumed
returns-clause-resumed c =
    let s = c.self.inside in
    let old = plain_state s.version s.hier s.mail s.processes.items in
    let in_range = rw (← c.self.view_is) at c.requires.process in
    of_old s.version s.hier s.mail s.processes.items _ _ c.args.p c.args.ring ask.Resume c.unchanged.result c.self.view_is
    (mail_serves s.version s.hier s.mail c.take-taken.new.self s.processes.items c.args.p (block old c.args.p)
    c.taken_reply.result c.unchanged.result
    c.requires.some in_range
    (block_is old c.args.p c.take-taken.result c.take-taken.new.self c.taken_reply.result c.take-taken.ensures.answer
    c.taken_reply.ensures)
    c.unchanged.ensures)
