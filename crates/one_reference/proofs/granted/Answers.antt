use Rattle.std.proofs.Common.{sym, subst}
use Rattle.mx_rule.specs.Openings.{ArePlaced}
use Rattle.mx_rule.specs.declared.layout.Layout.{Layout}
use Rattle.one_reference.proofs.granted.Goals as goal

pub run-requires-clause-placed : goal.run-requires-clause-placed
run-requires-clause-placed c =
    subst (λ (y : Layout). ArePlaced y c.in_ok-key.key.base) (sym (λ i. (c.in_ok-words.ensures.key i).layout))
    c.in_ok-key.ensures.may.each
