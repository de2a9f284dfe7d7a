use Rattle.std.proofs.Common.{rules, ◌≡◌, ◌∙◌, ◌∷◌, ◌++◌, [], ap, refl}
use Rattle.mx_state.specs.declared.journal.Entry as journaled
use Rattle.mx_sup.proofs.SetupLaws.{entered_one}
use Rattle.mx_sup.proofs.setups.enter.Goals as goal

pub returns-clause-entered : goal.returns-clause-entered
returns-clause-entered c =
    let inner : c.unwrap-ring.result ≡ 0 = search rules in
    entered_one _ _ _ _ _ _ _ _ inner refl c.requires.ask c.in_ok-came.ensures.answer c.in_ok-came.ensures.processes
    (c.push_reserved.ensures.items ∙ ap (λ (e : journaled.Entry). c.args.journal.now.items ++ e ∷ []) c.in_ok-came.ensures.entry)
