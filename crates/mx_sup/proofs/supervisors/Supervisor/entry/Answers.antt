use Rattle.std.proofs.Common.{◌≡◌, ◌-◌, ◌∙◌, Some, ap, sym, subst, List}
use Rattle.std.specs.List.{slice_get}
use Rattle.mx_state.specs.declared.journal.Entry as journaled
use Rattle.mx_sup.proofs.HistoryLaws.{entry_found}
use Rattle.mx_sup.specs.Supervised.{Supervised}
use Rattle.mx_sup.proofs.supervisors.Supervisor.entry.Goals as goal

pub returns : goal.returns
returns c =
    let at : slice_get c.args.self.now.journal (c.args.number - 1) ≡ Some c.in-Some.entry.now
    = subst (λ (j : List journaled.Entry). slice_get j (c.args.number - 1) ≡ Some c.in-Some.entry.now)
    (c.deref.ensures.value ∙ ap (λ (s : Supervised). s.journal) c.self.view_is) (sym c.in-Some.ensures) in
    entry_found _ _ _ c.requires.some at
