use Rattle.mx_state.specs.Calling.{begun}
use Rattle.std.proofs.Common.{OnErr, ◌≡◌}
use Rattle.std.specs.Option.{option_and_then}
use Rattle.mx_state.specs.Askers.{asker}
use Rattle.mx_state.specs.AtOnce.{path_of, pathless}
use Rattle.mx_state.proofs.AtOnceLaws.{told_path, with_any_path}
use Rattle.std.proofs.Common.{List, None, Ok, IfOk, ap, refl, subst}
use Rattle.mx_core.specs.declared.changes.Change.{Change}
use Rattle.mx_hier.specs.Who.{caller}
use Rattle.mx_request.specs.declared.replies.Reply.TheVariants.{Done}
use Rattle.mx_state.specs.declared.applied.Applied.{Applied}
use Rattle.mx_state.specs.Changing.{created, creation}
use Rattle.mx_state.specs.Plain.{Plain}
use Rattle.mx_state.specs.Serving.{Serves}
use Rattle.mx_state.proofs.AnswerLaws.{call_is_sound, of_old_by, plain_state, quiet_refused, quiet_serves}
use Rattle.mx_state.proofs.ChangingLaws.{created_leaves}
use Rattle.mx_state.proofs.SegmentLaws.{Nothing}
use Rattle.mx_state.proofs.states.State.create.Goals as goal

pub invariant_of-self-2 : goal.invariant_of-self-2
invariant_of-self-2 c =
    let s = c.self.inside in
    let who = caller c.caller-who.result in
    call_is_sound s.version Nothing (created s.hier who c.args.request.now) s.hier c.create.new.hier s.mail s.processes.items s.initializer s.root
    c.create.result c.create.ensures.answer (created_leaves s.hier who c.args.request.now) c.self.invariant

pub returns-clause-served : goal.returns-clause-served
returns-clause-served c =
    let s = c.self.inside in
    let who = caller c.caller-who.result in
    let meant = created s.hier who c.args.request.now in
    let applied : List Change → Applied = λ changes. record { reply = Done; changes = changes; given = c.in-Ok.given; freed = None } in
    of_old_by s.version (λ s. creation s c.args.p c.args.ring c.args.request.now) s.hier s.mail s.processes.items _ _ (applied c.new.result) c.self.view_is
    (quiet_serves s.version (λ who. created s.hier who c.args.request.now) meant s.hier c.create.new.hier s.mail s.processes.items c.args.p c.args.ring who
    (Ok c.in-Ok.given) Done c.in-Ok.given (applied c.new.result) (rw c.as_slice-processes.ensures.value at c.caller-who.ensures) refl
    c.in-Ok.ensures.answer refl (created_leaves s.hier who c.args.request.now) c.in-Ok.ensures.run c.self.invariant.sound (ap applied c.new.ensures))

pub returns-in-Err-clause-served : goal.returns-in-Err-clause-served
returns-in-Err-clause-served c =
    let s = c.self.inside in
    let who = caller c.caller-who.result in
    let meant = created s.hier who c.args.request.now in
    let new = plain_state s.version c.create.new.hier s.mail s.processes.items in
    subst (λ (t : Plain). IfOk c.refused.result (Serves t new (creation t c.args.p c.args.ring c.args.request.now))) c.self.view_is
    (quiet_refused s.version (λ who. created s.hier who c.args.request.now) meant s.hier c.create.new.hier s.mail s.processes.items c.args.p c.args.ring who
    c.create.result c.in-Err.error c.refused.result (rw c.as_slice-processes.ensures.value at c.caller-who.ensures) refl c.in-Err.is
    c.create.ensures.answer (created_leaves s.hier who c.args.request.now) c.self.invariant.sound c.refused.ensures)

pub returns-in-Err-clause-told : goal.returns-in-Err-clause-told
returns-in-Err-clause-told c =
    let s = c.self.inside in
    let who = caller c.caller-who.result in
    subst (λ (t : Plain). OnErr c.refused.result (option_and_then (pathless (asker t.processes c.args.p) c.args.ring) (path_of c.args.request.now) ≡ None)) c.self.view_is
    (told_path _ (begun who (path_of c.args.request.now)) c.in-Err.error c.refused.result
    (with_any_path (asker s.processes.items c.args.p) c.args.ring who (path_of c.args.request.now) (rw c.as_slice-processes.ensures.value at c.caller-who.ensures))
    c.in-Err.ensures.told c.refused.ensures)
