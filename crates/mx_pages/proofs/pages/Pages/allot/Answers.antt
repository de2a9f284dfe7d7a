use Rattle.std.proofs.Common.{ℕ, ◌↔◌, subst}
use Rattle.mx_pages.specs.Runs.{PageMap, IsFree, IsInRun}
use Rattle.mx_pages.proofs.RunLaws.{only_taken}
use Rattle.mx_pages.proofs.pages.Pages.allot.Goals as goal

pub returns-clause-only : goal.returns-clause-only
returns-clause-only c =
    let old : PageMap = record { free = c.self.inside.free } in
    let new : PageMap = record { free = c.set_run.new.free } in
    subst (λ (old : PageMap). (page : ℕ) → IsFree new page ↔ (IsFree old page × (IsInRun c.args.n c.in-Some.first page → ⊥))) c.self.view_is
    (only_taken old new c.in-Some.first c.args.n c.self.told c.set_run.ensures)
