use Rattle.std.proofs.Common.{rules, ◌<◌, ◌≤◌, ◌∙◌, ◌∷◌, ◌++◌, [], ap, length, refl}
use Rattle.mx_script.specs.Sessions.{limit_of}
use Rattle.mx_state.specs.declared.journal.Entry as journaled
use Rattle.mx_sup.proofs.HistoryLaws.{came_kept, kept_entry}
use Rattle.mx_sup.proofs.supervisors.Supervisor.enter.Goals as goal

pub invariant_of-self-2 : goal.invariant_of-self-2
invariant_of-self-2 c =
    let below : length c.self.inside.journal.items < limit_of c.self.inside.session.now = search rules in
    let most : c.args.p ≤ length c.self.inside.session.now.principals = search rules in
    kept_entry _ _ _ _ _ _ _ _ _ _ _ c.self.invariant below c.requires.some most c.in_ok-came.ensures.answer
    c.in_ok-came.ensures.processes refl c.in_ok-reserve.ensures.items
    (c.push_reserved.ensures.items ∙ ap (λ (e : journaled.Entry). c.reserve.new.self.items ++ e ∷ []) c.in_ok-came.ensures.entry)

pub returns-clause-came : goal.returns-clause-came
returns-clause-came c =
    let below : length c.self.inside.journal.items < limit_of c.self.inside.session.now = search rules in
    let most : c.args.p ≤ length c.self.inside.session.now.principals = search rules in
    let after = kept_entry _ _ _ _ _ _ _ _ _ _ _ c.self.invariant below c.requires.some most c.in_ok-came.ensures.answer
    c.in_ok-came.ensures.processes refl c.in_ok-reserve.ensures.items
    (c.push_reserved.ensures.items ∙ ap (λ (e : journaled.Entry). c.reserve.new.self.items ++ e ∷ []) c.in_ok-came.ensures.entry) in
    came_kept _ _ _ _ _ _ _ c.self.invariant after c.self.view_is c.in_ok-came.ensures.changes c.in_ok-came.ensures.bounded
    c.in_ok-came.ensures.given c.in_ok-came.ensures.freed
