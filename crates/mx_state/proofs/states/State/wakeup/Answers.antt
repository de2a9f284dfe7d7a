use Rattle.mx_request.specs.declared.requests.Request.TheVariants as ask
use Rattle.mx_state.specs.Messages.{wakeup}
use Rattle.mx_state.proofs.AnswerLaws.{plain_state, of_old}
use Rattle.mx_state.proofs.MessageLaws.{mail_holds, mail_serves, wakeup_is}
use Rattle.mx_state.proofs.states.State.wakeup.Goals as goal

pub invariant_of-self : goal.invariant_of-self
invariant_of-self c =
    let s = c.self.inside in
    mail_holds s.version s.hier s.mail c.send-given.new.self s.processes.items s.initializer s.root c.send-given.ensures.count
    c.self.invariant

pub returns-clause-served : goal.returns-clause-served
returns-clause-served c =
    let s = c.self.inside in
    let old = plain_state s.version s.hier s.mail s.processes.items in
    let in_range = rw (← c.self.view_is) at c.requires.process in
    of_old s.version s.hier s.mail s.processes.items _ _ c.args.p c.args.ring (ask.Wakeup c.args.to c.args.word)
    c.unchanged.result c.self.view_is
    (mail_serves s.version s.hier s.mail c.send-given.new.self s.processes.items c.args.p
    (wakeup old c.args.p c.args.to c.args.word)
    c.in_ok-reply.reply c.unchanged.result c.requires.some in_range
    (wakeup_is old c.args.p c.args.to c.args.word c.send-given.result c.send-given.new.self c.in_ok-reply.reply
    c.send-given.ensures.ok
    c.send-given.ensures.refused c.send-given.ensures.err c.in_ok-reply.ensures)
    c.unchanged.ensures)
