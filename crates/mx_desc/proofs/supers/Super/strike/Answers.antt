use Rattle.std.proofs.Common.{◌≡◌, ℕ, ◌∙◌, Option, Some, sym, ap, subst}
use Rattle.mx_core.specs.Put.{put}
use Rattle.mx_rule.specs.Seats.{super_of}
use Rattle.mx_rule.specs.Shown.{office_of}
use Rattle.mx_rule.specs.Striking.{struck_view}
use Rattle.mx_rule.specs.declared.layout.Layout.{Layout}
use Rattle.mx_rule.specs.declared.views.SuperView.{SuperView}
use Rattle.mx_desc.specs.Slots.{ShowsSlots, fault_in}
use Rattle.mx_desc.specs.Supers.{AreKept}
use Rattle.mx_desc.proofs.KeptLaws.{moved, struck_kept}
use Rattle.mx_desc.proofs.supers.Super.strike.Goals as goal

pub invariant_of-self : goal.invariant_of-self
invariant_of-self g c =
    let v = super_of c.self.inside.seat.seat.me.0 in
    let is = c.self.invariant in
    let p = c.args.process in
    let n = c.args.segno in
    let y = c.strike.new.self.layout in
    let kept = subst (λ (y : Layout). AreKept y v c.self.inside.slots.items) (sym c.strike.ensures.layout) is.kept in
    let length : c.strike.new.self.length ≡ v.length =
    sym c.strike.new.self.length_is ∙ ap (λ (u : SuperView g.row.E.Denot). u.length) c.strike.ensures.view in
    let faults : ℕ → ℕ → Option ℕ = λ i k. fault_in ((office_of v).word i k) in
    let shows = subst (λ (k : ℕ). ShowsSlots y ((office_of v).table v.length) (put faults p (put (faults p) n (Some k)))
    c.set_fault.new.slots.items) length
    (c.set_fault.ensures.shown ((office_of v).table v.length) faults kept) in
    moved _ _ _ _ _ (struck_view p n v) _ _ c.strike.ensures.view (record {
      here = c.strike.ensures.place ∙ is.here;
      laid = c.strike.ensures.layout ∙ is.laid;
      begun = is.begun;
      counted = is.counted;
      kept = struck_kept y v c.self.inside.slots.items p n c.set_fault.new.slots.items shows;
    })
