use Rattle.std.proofs.Common.{◌≡◌, ◌↔◌, IsTrue, subst}
use Rattle.mx_request.specs.declared.requests.Request.TheVariants as ask
use Rattle.mx_request.specs.declared.replies.Reply.TheVariants.{Waiting}
use Rattle.mx_state.specs.Plain.{Plain}
use Rattle.mx_state.specs.Requests.{plain}
use Rattle.mx_state.proofs.AnswerLaws.{plain_state}
use Rattle.mx_state.proofs.MessageLaws.{ready_is}
use Rattle.mx_state.proofs.states.State.ready.Goals as goal

pub returns-clause-block : goal.returns-clause-block
returns-clause-block c = λ ring.
    let s = c.self.inside in
    let in_range = rw (← c.self.view_is) at c.requires.process in
    subst (λ (t : Plain). IsTrue c.ready.result ↔ ((plain t c.args.p ring ask.Block).reply ≡ Waiting → ⊥))
    c.self.view_is
    (ready_is (plain_state s.version s.hier s.mail s.processes.items) c.args.p c.ready.result c.requires.some in_range
    c.ready.ensures.exactly)

pub returns-clause-resume : goal.returns-clause-resume
returns-clause-resume c = λ ring.
    let s = c.self.inside in
    let in_range = rw (← c.self.view_is) at c.requires.process in
    subst (λ (t : Plain). IsTrue c.ready.result ↔ ((plain t c.args.p ring ask.Resume).reply ≡ Waiting → ⊥))
    c.self.view_is
    (ready_is (plain_state s.version s.hier s.mail s.processes.items) c.args.p c.ready.result c.requires.some in_range
    c.ready.ensures.exactly)
