use Rattle.std.proofs.Common.{◌≡◌, Some, Ok, sym, ap, ◌∙◌}
use Rattle.std.specs.Option.{option_copied}
use Rattle.mx_pages.specs.Runs.{run_given, pages_for}
use Rattle.mx_hier.specs.Branches.{Hierarchy}
use Rattle.mx_hier.specs.Who.{subject}
use Rattle.mx_hier.proofs.MakingLaws.{pages_there}
use Rattle.mx_hier.proofs.hier.Hier.add_segment.Goals as goal

pub returns-clause-answer : goal.returns-clause-answer
returns-clause-answer c =
    let h = c.args.self.now in
    let page : run_given h.pages (pages_for c.args.words) ≡ Some c.in-Some.page =
    ap (λ (h : Hierarchy). run_given h.pages (pages_for c.args.words)) (sym c.self.view_is)
    ∙ ap (run_given c.self.inside.pages) (sym c.pages_for-pages.ensures) ∙ sym c.in-Some.ensures.run in
    pages_there h (subject c.args.who.now) c.args.at.now c.args.words c.in-Some.page c.args.brackets c.args.modes (option_copied c.args.object) c.in_ok-acl.acl page
    c.in_ok-acl.ensures
    ∙ ap (λ (new : Hierarchy). Ok new) (sym c.in_ok-put_segment.ensures.ok)
