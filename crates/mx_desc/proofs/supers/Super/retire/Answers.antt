use Rattle.std.proofs.Common.{◌∙◌, sym, subst}
use Rattle.mx_rule.specs.Dealing.{retired_view}
use Rattle.mx_rule.specs.Seats.{super_of}
use Rattle.mx_rule.specs.declared.layout.Layout.{Layout}
use Rattle.mx_desc.specs.Supers.{AreKept}
use Rattle.mx_desc.proofs.KeptLaws.{moved}
use Rattle.mx_desc.proofs.supers.Super.retire.Goals as goal

pub invariant_of-self : goal.invariant_of-self
invariant_of-self g c =
    let v = super_of c.self.inside.seat.seat.me.0 in
    let is = c.self.invariant in
    moved _ _ _ _ _ (retired_view _ v) _ _ c.retire.ensures.view (record {
      here = c.retire.ensures.place ∙ is.here;
      laid = c.retire.ensures.layout ∙ is.laid;
      begun = is.begun;
      counted = is.counted;
      kept = subst (λ (y : Layout). AreKept y v c.self.inside.slots.items) (sym c.retire.ensures.layout) is.kept;
    })
