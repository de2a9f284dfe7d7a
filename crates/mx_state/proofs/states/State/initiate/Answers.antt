use Rattle.std.proofs.Common.{◌≡◌, Some, Ok, ap, sym, ◌∙◌, subst}
use Rattle.std.specs.Option.{option_copied}
use Rattle.mx_hier.specs.Initiate.{segment}
use Rattle.mx_request.specs.declared.replies.Reply.TheVariants.{Segno}
use Rattle.mx_state.specs.Askers.{caller}
use Rattle.mx_state.specs.Connecting.{connect}
use Rattle.mx_state.specs.Knowing.{given, initiate}
use Rattle.mx_state.specs.Known.{Connects}
use Rattle.mx_state.specs.Plain.{Plain, process_at}
use Rattle.mx_state.proofs.ConnectionLaws.{connection_serves}
use Rattle.mx_state.proofs.Descriptors.{process_at_place}
use Rattle.mx_state.proofs.states.State.initiate.Goals as goal

pub returns-in-Ok-2-clause-served : goal.returns-in-Ok-2-clause-served
returns-in-Ok-2-clause-served c =
    let now = c.args.self.now in
    let own = c.process_in-process.result.now in
    let text = option_copied c.args.name in
    let place = rw (c.as_slice.ensures.value, c.from.ensures) at c.process_in-process.ensures in
    let there : process_at now.processes c.args.p ≡ Some own =
    sym (ap (λ (t : Plain). process_at t.processes c.args.p) c.self.view_is) ∙ process_at_place c.self.inside.processes.items c.args.p c.requires.some ∙ place in
    let found : segment now.hierarchy (caller own c.args.ring) c.args.path.now ≡ Ok c.in-Ok.uid =
    sym (ap (λ (t : Plain). segment t.hierarchy (caller own c.args.ring) c.args.path.now) c.self.view_is)
    ∙ sym (ap (λ who. segment c.self.inside.hier who c.args.path.now) c.own_caller-who.ensures) ∙ c.in-Ok.ensures.answer in
    let meant = connect now.hierarchy own.known c.args.ring text c.in-Ok.uid in
    let is = subst (Connects now c.connect.new.self c.args.p own meant) c.in-Ok-2.is (c.in_ok-connection.ensures.connected own there) in
    connection_serves now c.connect.new.self c.args.p own meant c.in-Ok-2.connection
    (λ process. initiate now c.args.p c.args.ring process text (segment now.hierarchy (caller process c.args.ring) c.args.path.now)) Segno
    c.requires.some there (λ after e. ap (initiate now c.args.p c.args.ring own text) found ∙ ap (given now c.args.p own) e) is
