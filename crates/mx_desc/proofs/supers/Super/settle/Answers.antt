use Rattle.std.proofs.Common.{◌≡◌, ℕ, suc, ◌≤◌, ◌∙◌, Option, sym, ap, subst, rules}
use Rattle.mx_rule.specs.Seats.{super_of}
use Rattle.mx_rule.specs.Shown.{office_of}
use Rattle.mx_rule.specs.Striking.{settled_view}
use Rattle.mx_rule.specs.declared.layout.Layout.{Layout}
use Rattle.mx_rule.specs.declared.views.SuperView.{SuperView}
use Rattle.mx_desc.specs.Slots.{IsPair, fault_in, is_fault}
use Rattle.mx_desc.specs.Supers.{AreKept}
use Rattle.mx_desc.proofs.KeptLaws.{is_fault_by, moved, same_fault, settled_kept, some_there}
use Rattle.mx_desc.proofs.supers.Super.settle.Goals as goal

pub unwrap-number-requires : goal.unwrap-number-requires
unwrap-number-requires g c =
    let v = super_of c.self.inside.seat.seat.me.0 in
    let p = c.args.process in
    let n = c.args.segno in
    let pair = subst (λ (y : Layout). IsPair y p n) (sym c.self.invariant.laid) c.requires.pair in
    let slot = c.self.invariant.kept.each p n c.slot_of-slot.result pair c.slot_of-slot.ensures in
    let view : v ≡ c.args.self.now = search rules in
    some_there ((office_of v).word p n) c.slot_of-slot.result.fault
    (ap (λ (u : SuperView g.row.E.Denot). is_fault ((office_of u).word p n)) view ∙ c.requires.fault) slot.broken

pub settle-requires-clause-codable : goal.settle-requires-clause-codable
settle-requires-clause-codable g c =
    let p = c.args.process in
    let n = c.args.segno in
    let pair = subst (λ (y : Layout). IsPair y p n) (sym c.self.invariant.laid) c.requires.pair in
    let slot = c.self.invariant.kept.each p n c.slot_of-slot.result pair c.slot_of-slot.ensures in
    (slot.fits c.unwrap-number.result c.unwrap-number.ensures, slot.admissible)

pub settle-requires-clause-present : goal.settle-requires-clause-present
settle-requires-clause-present g c =
    let p = c.args.process in
    let n = c.args.segno in
    let pair = subst (λ (y : Layout). IsPair y p n) (sym c.self.invariant.laid) c.requires.pair in
    let slot = c.self.invariant.kept.each p n c.slot_of-slot.result pair c.slot_of-slot.ensures in
    sym slot.present

pub settle-requires-clause-may : goal.settle-requires-clause-may
settle-requires-clause-may g c =
    let seat = c.self.inside.seat in
    let v = super_of seat.seat.me.0 in
    let p = c.args.process in
    let n = c.args.segno in
    let pair = subst (λ (y : Layout). IsPair y p n) (sym c.self.invariant.laid) c.requires.pair in
    let slot = c.self.invariant.kept.each p n c.slot_of-slot.result pair c.slot_of-slot.ensures in
    let view : v ≡ c.args.self.now = search rules in record {
      low = pair.low;
      high = subst (λ (k : ℕ). p ≤ k) (sym seat.processes_is) pair.high;
      number = subst (λ (k : ℕ). suc n ≤ k) (sym seat.numbers_is) pair.number;
      rest = subst (λ (u : SuperView g.row.E.Denot). u.length ≤ u.answered) (sym view) c.requires.rest;
      fault = is_fault_by ((office_of v).word p n) c.unwrap-number.result (sym c.unwrap-number.ensures ∙ slot.broken);
    }

pub invariant_of-self : goal.invariant_of-self
invariant_of-self g c =
    let v = super_of c.self.inside.seat.seat.me.0 in
    let is = c.self.invariant in
    let p = c.args.process in
    let n = c.args.segno in
    let y = c.settle.new.self.layout in
    let kept = subst (λ (y : Layout). AreKept y v c.self.inside.slots.items) (sym c.settle.ensures.layout) is.kept in
    let faults : ℕ → ℕ → Option ℕ = λ i k. fault_in ((office_of v).word i k) in
    moved _ _ _ _ _ (settled_view p n c.unwrap-number.result v) _ _ c.settle.ensures.view (record {
      here = c.settle.ensures.place ∙ is.here;
      laid = c.settle.ensures.layout ∙ is.laid;
      begun = is.begun;
      counted = is.counted;
      kept = settled_kept y v c.self.inside.slots.items p n c.unwrap-number.result c.set_fault.new.slots.items
          (c.set_fault.ensures.shown ((office_of v).table v.length) faults kept);
    })

pub returns : goal.returns
returns g c number is =
    let v = super_of c.self.inside.seat.seat.me.0 in
    let p = c.args.process in
    let n = c.args.segno in
    let pair = subst (λ (y : Layout). IsPair y p n) (sym c.self.invariant.laid) c.requires.pair in
    let slot = c.self.invariant.kept.each p n c.slot_of-slot.result pair c.slot_of-slot.ensures in
    let view : v ≡ c.args.self.now = search rules in
    let fault = is_fault_by ((office_of v).word p n) c.unwrap-number.result
    (sym c.unwrap-number.ensures ∙ slot.broken) in
    let same = same_fault c.unwrap-number.result number
    (sym fault ∙ ap (λ (u : SuperView g.row.E.Denot). (office_of u).word p n) view ∙ is) in
    c.settle.ensures.view ∙ (λ i. settled_view p n (same i) (view i))
