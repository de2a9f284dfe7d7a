use Rattle.std.proofs.Common.{◌≡◌, length, sym, ap, ◌∙◌, subst}
use Rattle.mx_closing.proofs.PassLists.{fresh_of_all}
use Rattle.mx_rule.specs.Openings.{ArePlaced}
use Rattle.mx_rule.specs.declared.layout.Layout.{Layout}
use Rattle.mx_office.proofs.Opens.{prepared_locked}
use Rattle.mx_office.proofs.opening.open.Goals as goal

pub seats-requires-clause-placed : goal.seats-requires-clause-placed
seats-requires-clause-placed g c =
    subst (λ (y : Layout). ArePlaced y c.args.prepared.base) (sym c.requires.layout) c.requires.prepared.placed

pub new-requires : goal.new-requires
new-requires g c =
    prepared_locked g.B.Sitting.session g.B.Sitting.setup g.B.Naming.layout c.args.prepared c.in_ok-chief.chief
    c.open-book.result.0.total c.requires.prepared c.requires.setup c.free_pages_are_bare.ensures
    c.length-length.ensures.processes c.requires.layout c.in_ok-chief.ensures.view c.open-book.ensures.total

pub returns-clause-all : goal.returns-clause-all
returns-clause-all g c =
    let made = c.in_ok-chief.ensures in
    fresh_of_all g.B.Naming.start (length g.B.Sitting.session.principals) c.in_ok-chief.passes made.passes
    (made.count ∙ ap (λ (y : Layout). y.processes) c.requires.layout)
