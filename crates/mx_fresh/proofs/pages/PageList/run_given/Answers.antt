use Rattle.std.proofs.Common.{◌≡◌, length, ap, subst, ◌∙◌}
use Rattle.mx_pages.specs.Runs.{PageMap, run_given}
use Rattle.mx_pages.proofs.RunLaws.{told_within}
use Rattle.mx_fresh.proofs.pages.PageList.run_given.Goals as goal

pub returns-clause-within : goal.returns-clause-within
returns-clause-within c =
    let long : length c.args.self.now.free ≡ 1024 = subst (λ (pages : PageMap). length pages.free ≡ 1024) c.self.view_is c.self.invariant in
    told_within c.args.self.now c.args.n long c.requires.some c.run_given.result
    ((rw c.as_slice.ensures.value at c.run_given.ensures.value) ∙ ap (λ (pages : PageMap). run_given pages c.args.n) c.self.view_is)
