use Rattle.std.proofs.Common.{◌-◌, ◌<◌, length, refl, ap, sym, arith}
use Rattle.mx_request.specs.declared.requests.Request.TheVariants as ask
use Rattle.mx_request.specs.declared.replies.Reply.TheVariants.{Done}
use Rattle.mx_state.specs.OwnState.{set_rules}
use Rattle.mx_state.proofs.AnswerLaws.{plain_state, of_old}
use Rattle.mx_state.proofs.ProcessLaws.{kept_holds, kept_serves}
use Rattle.mx_state.proofs.states.State.set_rules.Goals as goal

within : (c : goal.After-unchanged) → c.from-i.result - 1 < length c.self.inside.processes.items
within c =
    let in_range = rw (← c.self.view_is) at c.requires.process in
    omega (arith, in_range, c.from-i.ensures, c.requires.some)

pub invariant_of-self : goal.invariant_of-self
invariant_of-self c =
    let s = c.self.inside in
    kept_holds s.version (λ process. record process { rules = c.in_ok-rules.rules }) s.hier s.mail s.processes.items c.search_by.new.processes.items
    (c.from-i.result - 1) s.initializer s.root (λ process. refl) (within c) c.search_by.ensures.set c.self.invariant

pub returns-clause-served : goal.returns-clause-served
returns-clause-served c =
    let s = c.self.inside in
    let old = plain_state s.version s.hier s.mail s.processes.items in
    of_old s.version s.hier s.mail s.processes.items _ _ c.args.p c.args.ring (ask.SetRules c.args.rules.now) c.unchanged.result c.self.view_is
    (kept_serves s.version (λ process. record process { rules = c.in_ok-rules.rules }) s.hier s.mail s.processes.items c.search_by.new.processes.items
    c.args.p (c.from-i.result - 1) (λ process. set_rules old c.args.p process c.args.rules.now) Done c.unchanged.result
    (λ process. refl) (λ process. (refl, refl)) c.requires.some (omega (arith, c.from-i.ensures)) (within c) c.search_by.ensures.set
    (λ process e. ap (set_rules old c.args.p process) (sym c.in_ok-rules.ensures)) c.unchanged.ensures)
