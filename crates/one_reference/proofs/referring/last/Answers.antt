use Rattle.std.proofs.Common.{sym, subst}
use Rattle.mx_desc.specs.Openings.{AreFreshPasses}
use Rattle.one_reference.proofs.Lasts.{popped_last}
use Rattle.one_reference.proofs.referring.last.Goals as goal

pub returns : goal.returns
returns g c = popped_last g.B.Naming.start c.into_items-passes.result.items c.pop.new.self.items c.pop.result
    c.pop.ensures.items
    (subst (AreFreshPasses g.B.Naming.start 1) (sym c.into_items-passes.ensures) c.requires)
