use Rattle.std.proofs.Common.{◌≡◌, ◌∙◌, sym, ap, subst, rules}
use Rattle.std.specs.Prelude.{is_some}
use Rattle.mx_rule.specs.Seats.{super_of}
use Rattle.mx_rule.specs.Shown.{office_of}
use Rattle.mx_rule.specs.declared.layout.Layout.{Layout}
use Rattle.mx_rule.specs.declared.views.SuperView.{SuperView}
use Rattle.mx_desc.specs.Slots.{IsPair, is_fault}
use Rattle.mx_desc.proofs.KeptLaws.{some_fault}
use Rattle.mx_desc.proofs.supers.Super.is_fault.Goals as goal

pub returns : goal.returns
returns g c =
    let v = super_of c.self.inside.seat.seat.me.0 in
    let p = c.args.process in
    let n = c.args.segno in
    let pair = subst (λ (y : Layout). IsPair y p n) (sym c.self.invariant.laid) c.requires in
    let slot = c.self.invariant.kept.each p n c.slot_of-slot.result pair c.slot_of-slot.ensures in
    let view : v ≡ c.args.self.now = search rules in
    c.is_some.ensures ∙ ap is_some slot.broken ∙ some_fault ((office_of v).word p n)
    ∙ ap (λ (u : SuperView g.row.E.Denot). is_fault ((office_of u).word p n)) view
