use Rattle.std.proofs.Common.{◌≡◌, length, ap, ◌∙◌, rules}
use Rattle.mx_pages.specs.Runs.{PageMap, run_given}
use Rattle.mx_pages.proofs.RunLaws.{told_within, told_lowest, told_none}
use Rattle.mx_pages.proofs.pages.Pages.next.Goals as goal

pub returns-clause-within : goal.returns-clause-within
returns-clause-within c =
    let long : length c.args.self.now.free ≡ 1024 = search rules in
    told_within c.args.self.now c.args.n long c.requires.some c.lowest_run.result
    (c.lowest_run.ensures.run ∙ ap (λ (pages : PageMap). run_given pages c.args.n) c.self.view_is)

pub returns-clause-lowest : goal.returns-clause-lowest
returns-clause-lowest c =
    let long : length c.args.self.now.free ≡ 1024 = search rules in
    told_lowest c.args.self.now c.args.n long c.requires.some c.lowest_run.result
    (c.lowest_run.ensures.run ∙ ap (λ (pages : PageMap). run_given pages c.args.n) c.self.view_is)

pub returns-clause-full : goal.returns-clause-full
returns-clause-full c =
    let long : length c.args.self.now.free ≡ 1024 = search rules in
    told_none c.args.self.now c.args.n long c.requires.some c.lowest_run.result
    (c.lowest_run.ensures.run ∙ ap (λ (pages : PageMap). run_given pages c.args.n) c.self.view_is)
