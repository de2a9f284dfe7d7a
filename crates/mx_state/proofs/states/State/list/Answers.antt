use Rattle.std.proofs.Common.{IfOk, ap, subst}
use Rattle.mx_hier.specs.List.{list}
use Rattle.mx_hier.specs.Who.{caller}
use Rattle.mx_request.specs.declared.requests.Request.TheVariants as ask
use Rattle.mx_request.specs.declared.replies.Reply.TheVariants.{Names}
use Rattle.mx_state.specs.Plain.{Plain}
use Rattle.mx_state.specs.Requests.{plain, told}
use Rattle.mx_state.specs.Serving.{Serves}
use Rattle.mx_state.proofs.AnswerLaws.{plain_state, told_serves, told_refused}
use Rattle.mx_state.proofs.states.State.list.Goals as goal

pub returns-clause-served : goal.returns-clause-served
returns-clause-served c =
    let s = c.self.inside in
    let old = plain_state s.version s.hier s.mail s.processes.items in
    rw c.list.ensures.same
    (subst (λ (t : Plain). Serves t old (plain t c.args.p c.args.ring (ask.List c.args.path.now)) c.unchanged.result) c.self.view_is
    (told_serves old c.args.p c.args.ring (caller c.caller-who.result) (λ who. list s.hier who c.args.path.now) Names (Names c.in-Ok.names) c.unchanged.result
    (rw c.as_slice-processes.ensures.value at c.caller-who.ensures) (ap (told old Names) c.in-Ok.ensures.answer) c.unchanged.ensures))

pub returns-in-Err-clause-served : goal.returns-in-Err-clause-served
returns-in-Err-clause-served c =
    let s = c.self.inside in
    let old = plain_state s.version s.hier s.mail s.processes.items in
    rw c.list.ensures.same
    (subst (λ (t : Plain). IfOk c.refused.result (Serves t old (plain t c.args.p c.args.ring (ask.List c.args.path.now)))) c.self.view_is
    (told_refused old c.args.p c.args.ring (caller c.caller-who.result) (λ who. list s.hier who c.args.path.now) Names c.in-Err.error c.refused.result
    (rw c.as_slice-processes.ensures.value at c.caller-who.ensures) c.in-Err.ensures.answer c.refused.ensures))
