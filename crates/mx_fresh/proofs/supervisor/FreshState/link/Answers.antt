use Rattle.std.proofs.Common.{◌≡◌, ◌-◌, Some, slice_get, slice_set, List, refl, sym, ap, subst, ◌∙◌}
use Rattle.mx_hier.specs.Branches.{Hierarchy}
use Rattle.mx_request.specs.declared.replies.Reply.{Reply}
use Rattle.mx_request.specs.declared.replies.Reply.TheVariants.{Linked}
use Rattle.mx_request.specs.declared.requests.Request.TheVariants as ask
use Rattle.mx_state.specs.Knowing.{link}
use Rattle.mx_state.specs.Plain.{Plain, answer}
use Rattle.mx_state.specs.Requests.{plain}
use Rattle.mx_state.specs.declared.states.ProcessState.{ProcessState}
use Rattle.mx_state.proofs.ProcessLaws.{to_process}
use Rattle.mx_fresh.specs.Outcomes.{leading_of}
use Rattle.mx_fresh.proofs.supervisor.FreshState.link.Goals as goal

pub returns-in-Ok-clause-answer : goal.returns-in-Ok-clause-answer
returns-in-Ok-clause-answer c =
    let s = c.self.inside in
    let old : Plain = record { version = s.version; hierarchy = s.hierarchy; processes = s.processes.items; mail = s.mail.items } in
    let new : Hierarchy → List ProcessState → Plain = λ h processes. record { version = s.version; hierarchy = h; processes = processes; mail = s.mail.items } in
    let process = c.own_process-process.result.now in
    let it = c.in-Ok.leading in
    let after = slice_set s.processes.items (c.args.p - 1) (record process { known = it.connection.after }) in
    let reply : Reply = Linked it.connection.known.segno it.word it.connection.known.fresh it.connection.known.linkage in
    let place : slice_get s.processes.items (c.args.p - 1) ≡ Some process = rw c.as_slice.ensures.value at c.own_process-process.ensures in
    rw c.giving.ensures (subst (λ (t : Plain). plain t c.args.p c.args.ring (ask.Link c.args.segno c.args.word) ≡ answer reply (new c.put_pages.new.hierarchy c.learn.new.processes.items)) c.self.view_is
    (to_process old c.args.p (c.args.p - 1) process (λ process. link old c.args.p c.args.ring process c.args.segno c.args.word) c.requires.some refl place
    ∙ c.in_ok-given.ensures.answer old c.args.p
    ∙ ap (leading_of old c.args.p process) c.in-Ok.is
    ∙ ap (λ h. answer reply (new h after)) (sym c.put_pages.ensures)
    ∙ ap (λ processes. answer reply (new c.put_pages.new.hierarchy processes)) (sym (c.learn.ensures.learnt process place))))
