use Rattle.std.proofs.Common.{◌∙◌, sym, subst}
use Rattle.mx_rule.specs.Acknowledging.{connecting_view}
use Rattle.mx_rule.specs.Seats.{super_of}
use Rattle.mx_rule.specs.declared.layout.Layout.{Layout}
use Rattle.mx_desc.specs.Supers.{AreKept}
use Rattle.mx_desc.proofs.KeptLaws.{moved}
use Rattle.mx_desc.proofs.supers.Super.connect.Goals as goal

pub invariant_of-self : goal.invariant_of-self
invariant_of-self g c =
    let v = super_of c.self.inside.seat.seat.me.0 in
    let is = c.self.invariant in
    moved _ _ _ _ _ (connecting_view c.args.process v) _ _ c.connect.ensures.view (record {
      here = c.connect.ensures.place ∙ is.here;
      laid = c.connect.ensures.layout ∙ is.laid;
      begun = is.begun;
      counted = is.counted;
      kept = subst (λ (y : Layout). AreKept y v c.self.inside.slots.items) (sym c.connect.ensures.layout) is.kept;
    })
