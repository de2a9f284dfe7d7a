use Rattle.std.proofs.Common.{◌≡◌, subst}
use Rattle.mx_hier.specs.List.{list}
use Rattle.mx_hier.specs.Who.{caller}
use Rattle.mx_request.specs.declared.replies.Reply.TheVariants as reply
use Rattle.mx_request.specs.declared.requests.Request.TheVariants as ask
use Rattle.mx_state.specs.Plain.{Plain, answer}
use Rattle.mx_state.specs.Requests.{plain}
use Rattle.mx_fresh.specs.Told.{IsResolved}
use Rattle.mx_fresh.proofs.AnswerLaws.{told_so, told_why}
use Rattle.mx_fresh.proofs.ToldLaws.{resolved_for}
use Rattle.mx_fresh.proofs.supervisor.FreshState.list.Goals as goal

pub returns-in-Ok-clause-answer : goal.returns-in-Ok-clause-answer
returns-in-Ok-clause-answer c =
    let s = c.self.inside in
    let old : Plain = record { version = s.version; hierarchy = s.hierarchy; processes = s.processes.items; mail = s.mail.items } in
    subst (λ (t : Plain). plain t c.args.p c.args.ring (ask.List c.args.path.now) ≡ answer (reply.Names c.in-Ok.names) t) c.self.view_is
    (told_so old c.args.p c.args.ring (caller c.caller-who.result) (reply.Names) (λ who. list s.hierarchy who c.args.path.now)
    (rw c.as_slice.ensures.value at c.caller-who.ensures) c.in-Ok.names c.in-Ok.ensures.answer)

pub returns-in-Err-Refused-clause-answer : goal.returns-in-Err-Refused-clause-answer
returns-in-Err-Refused-clause-answer c =
    let s = c.self.inside in
    let old : Plain = record { version = s.version; hierarchy = s.hierarchy; processes = s.processes.items; mail = s.mail.items } in
    subst (λ (t : Plain). plain t c.args.p c.args.ring (ask.List c.args.path.now) ≡ answer (reply.Refused c.in-Err-Refused.why) t) c.self.view_is
    (told_why old c.args.p c.args.ring (caller c.caller-who.result) (reply.Names) (λ who. list s.hierarchy who c.args.path.now)
    (rw c.as_slice.ensures.value at c.caller-who.ensures) c.in-Err-Refused.why (rw c.in-Err-Refused.field-0-is at c.in-Err-Refused.ensures.answer))

pub returns-clause-told : goal.returns-clause-told
returns-clause-told c =
    let s = c.self.inside in
    let old : Plain = record { version = s.version; hierarchy = s.hierarchy; processes = s.processes.items; mail = s.mail.items } in
    subst (λ (t : Plain). IsResolved t c.args.p c.args.ring (ask.List c.args.path.now)) c.self.view_is
    (resolved_for old c.args.p c.args.ring (caller c.caller-who.result) (ask.List c.args.path.now)
    (rw c.as_slice.ensures.value at c.caller-who.ensures) (rw c.in-Err-Memory.field-0-is at c.in-Err-Memory.ensures.told))
