use Rattle.std.proofs.Common.{◌-◌, ◌<◌, ◌≡◌, ◌∙◌, length, refl, ap, sym, arith}
use Rattle.mx_hier.specs.ChangeWorkingDirectory.{directory}
use Rattle.mx_request.specs.declared.requests.Request.TheVariants as ask
use Rattle.mx_request.specs.declared.replies.Reply.TheVariants.{Done}
use Rattle.mx_state.specs.Askers.{caller}
use Rattle.mx_state.specs.OwnState.{change_wdir}
use Rattle.mx_state.proofs.AnswerLaws.{plain_state, of_old}
use Rattle.mx_state.proofs.ProcessLaws.{kept_holds, kept_serves}
use Rattle.mx_state.proofs.states.State.change_wdir.Goals as goal

within : (c : goal.After-unchanged) → c.from-i.result - 1 < length c.self.inside.processes.items
within c =
    let in_range = rw (← c.self.view_is) at c.requires.process in
    omega (arith, in_range, c.from-i.ensures, c.requires.some)

pub invariant_of-self : goal.invariant_of-self
invariant_of-self c =
    let s = c.self.inside in
    kept_holds s.version (λ process. record process { working_directory = c.in-Ok.directory }) s.hier s.mail s.processes.items c.move_to.new.processes.items
    (c.from-i.result - 1) s.initializer s.root (λ process. refl) (within c) c.move_to.ensures.moved c.self.invariant

pub returns-clause-served : goal.returns-clause-served
returns-clause-served c =
    let s = c.self.inside in
    let old = plain_state s.version s.hier s.mail s.processes.items in
    of_old s.version s.hier s.mail s.processes.items _ _ c.args.p c.args.ring (ask.ChangeWdir c.args.path.now) c.unchanged.result c.self.view_is
    (kept_serves s.version (λ process. record process { working_directory = c.in-Ok.directory }) s.hier s.mail s.processes.items c.move_to.new.processes.items
    c.args.p (c.from-i.result - 1) (λ process. change_wdir old c.args.p process (directory s.hier (caller process c.args.ring) c.args.path.now)) Done c.unchanged.result
    (λ process. refl) (λ process. (refl, refl)) c.requires.some (omega (arith, c.from-i.ensures)) (within c) c.move_to.ensures.moved
    (λ process e.
    let there = rw c.as_slice.ensures.value at c.process_in.ensures in
    let same : process ≡ c.process_in.result.now = cc in
    ap (change_wdir old c.args.p process)
    (ap (λ p. directory s.hier (caller p c.args.ring) c.args.path.now) same ∙ ap (λ who. directory s.hier who c.args.path.now) (sym c.own_caller-who.ensures) ∙ c.in-Ok.ensures.answer))
    c.unchanged.ensures)
