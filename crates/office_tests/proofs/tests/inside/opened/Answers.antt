use Rattle.std.proofs.Common.{sym, subst}
use Rattle.mx_desc.specs.Openings.{AreFreshPasses}
use Rattle.rule_tests.proofs.PassLaws.{fresh_are_new}
use Rattle.office_tests.proofs.tests.inside.opened.Goals as goal

pub returns : goal.returns
returns g c = fresh_are_new g.B.Naming.start 1 c.into_items.result.items
    (subst (AreFreshPasses g.B.Naming.start 1) (sym c.into_items.ensures) c.requires)
