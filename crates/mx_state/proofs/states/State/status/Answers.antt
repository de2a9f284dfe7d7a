use Rattle.mx_hier.specs.Who.{caller}
use Rattle.mx_state.specs.Plain.{Plain}
use Rattle.mx_hier.specs.Walks.{resolved}
use Rattle.std.proofs.Common.{None, OnErr, subst, ◌≡◌}
use Rattle.mx_state.specs.Askers.{asker}
use Rattle.mx_state.specs.AtOnce.{pathless}
use Rattle.mx_state.proofs.AtOnceLaws.{told_path, with_path}
use Rattle.mx_state.proofs.states.State.status.Goals as goal

pub returns-in-Err-clause-told : goal.returns-in-Err-clause-told
returns-in-Err-clause-told c =
    let s = c.self.inside in
    let who = caller c.caller-who.result in
    subst (λ (t : Plain). OnErr c.refused.result (pathless (asker t.processes c.args.p) c.args.ring c.args.path.now ≡ None)) c.self.view_is
    (told_path _ (resolved who c.args.path.now) c.in-Err.error c.refused.result
    (with_path (asker s.processes.items c.args.p) c.args.ring who c.args.path.now (rw c.as_slice-processes.ensures.value at c.caller-who.ensures))
    c.in-Err.ensures.told c.refused.ensures)
