use Rattle.std.proofs.Common.{ℕ, ◌⊎◌, ◌↔◌, subst}
use Rattle.mx_pages.specs.Runs.{PageMap, IsFree, IsInRun}
use Rattle.mx_pages.proofs.RunLaws.{only_freed}
use Rattle.mx_pages.proofs.pages.Pages.free.Goals as goal

pub returns-clause-only : goal.returns-clause-only
returns-clause-only c =
    let old : PageMap = record { free = c.self.inside.free } in
    let new : PageMap = record { free = c.set_run.new.free } in
    subst (λ (old : PageMap). (other : ℕ) → IsFree new other ↔ (IsFree old other ⊎ IsInRun c.args.n c.args.page other)) c.self.view_is
    (only_freed old new c.args.page c.args.n c.self.told c.requires.within c.set_run.ensures)
