use Rattle.std.proofs.Common.{◌∙◌, sym, subst}
use Rattle.mx_rule.specs.Acknowledging.{answered_view}
use Rattle.mx_rule.specs.Seats.{super_of}
use Rattle.mx_rule.specs.declared.layout.Layout.{Layout}
use Rattle.mx_desc.specs.Supers.{AreKept}
use Rattle.mx_desc.proofs.KeptLaws.{moved}
use Rattle.mx_desc.proofs.supers.Super.answer.Goals as goal

pub invariant_of-self : goal.invariant_of-self
invariant_of-self g c =
    let v = super_of c.self.inside.seat.seat.me.0 in
    let is = c.self.invariant in
    moved _ _ _ _ _ (answered_view v) _ _ c.answer.ensures.view (record {
      here = c.answer.ensures.place ∙ is.here;
      laid = c.answer.ensures.layout ∙ is.laid;
      begun = is.begun;
      counted = is.counted;
      kept = subst (λ (y : Layout). AreKept y v c.self.inside.slots.items) (sym c.answer.ensures.layout) is.kept;
    })
