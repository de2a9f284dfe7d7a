use Rattle.std.proofs.Common.{ap, sym}
use Rattle.mx_request.specs.declared.replies.Reply.TheVariants.{Done}
use Rattle.mx_request.specs.declared.requests.Request.TheVariants as ask
use Rattle.mx_state.specs.Messages.{logout}
use Rattle.mx_state.specs.Plain.{answer}
use Rattle.mx_state.proofs.AnswerLaws.{plain_state, of_old}
use Rattle.mx_state.proofs.MessageLaws.{mail_holds, mail_serves}
use Rattle.mx_state.proofs.states.State.logout.Goals as goal

pub invariant_of-self : goal.invariant_of-self
invariant_of-self c =
    let s = c.self.inside in
    mail_holds s.version s.hier s.mail c.end.new.self s.processes.items s.initializer s.root c.end.ensures.count c.self.invariant

pub returns : goal.returns
returns c =
    let s = c.self.inside in
    let in_range = rw (← c.self.view_is) at c.requires.process in
    of_old s.version s.hier s.mail s.processes.items _ _ c.args.p c.args.ring ask.Logout c.unchanged.result c.self.view_is
    (mail_serves s.version s.hier s.mail c.end.new.self s.processes.items c.args.p
    (logout (plain_state s.version s.hier s.mail s.processes.items) c.args.p) Done
    c.unchanged.result c.requires.some in_range
    (ap (λ m. answer Done (plain_state s.version s.hier m s.processes.items)) (sym c.end.ensures.after)) c.unchanged.ensures)
