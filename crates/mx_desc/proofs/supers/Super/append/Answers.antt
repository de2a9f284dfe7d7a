use Rattle.std.proofs.Common.{◌≡◌, ℕ, ◌∙◌, List, Option, sym, ap, subst, arith, rules}
use Rattle.mx_core.specs.Append.{with_changes}
use Rattle.mx_core.specs.declared.changes.Change.{Change}
use Rattle.mx_rule.specs.Appending.{MayAppend, appended_view}
use Rattle.mx_rule.specs.Seats.{super_of}
use Rattle.mx_rule.specs.Shown.{office_of}
use Rattle.mx_rule.specs.declared.layout.Layout.{Layout}
use Rattle.mx_rule.specs.declared.views.SuperView.{SuperView}
use Rattle.mx_desc.specs.Slots.{AreSlotted, ShowsSlots, fault_in}
use Rattle.mx_desc.specs.Supers.{AreKept}
use Rattle.mx_desc.proofs.KeptLaws.{appended_kept, are_slotted, moved}
use Rattle.mx_desc.proofs.supers.Super.append.Goals as goal

pub put_changes-requires-clause-each : goal.put_changes-requires-clause-each
put_changes-requires-clause-each g c =
    let seat = c.self.inside.seat in
    let v = super_of seat.seat.me.0 in
    let y = c.append.new.self.layout in
    let view : v ≡ c.args.self.now = search rules in
    subst (AreSlotted y) (sym c.items.ensures)
    (are_slotted y v c.self.inside.slots.items c.args.process c.args.changes.now c.args.given.now
    (seat.processes_is ∙ sym (ap (λ (z : Layout). z.processes) c.append.ensures.layout))
    (seat.numbers_is ∙ sym (ap (λ (z : Layout). z.numbers) c.append.ensures.layout))
    (subst (λ (u : SuperView g.row.E.Denot). MayAppend (office_of u) c.args.process c.args.changes.now
    c.args.given.now) (sym view) c.requires.may))

pub invariant_of-self : goal.invariant_of-self
invariant_of-self g c =
    let v = super_of c.self.inside.seat.seat.me.0 in
    let is = c.self.invariant in
    let y = c.append.new.self.layout in
    let kept = subst (λ (y : Layout). AreKept y v c.self.inside.slots.items) (sym c.append.ensures.layout) is.kept in
    let faults : ℕ → ℕ → Option ℕ = λ i k. fault_in ((office_of v).word i k) in
    let shows = subst (λ (l : List Change). ShowsSlots y (with_changes l ((office_of v).table v.length)) faults
    c.put_changes.new.slots.items) c.items.ensures
    (c.put_changes.ensures.shown ((office_of v).table v.length) faults kept) in
    moved _ _ _ _ _ (appended_view c.args.process c.args.changes.now c.args.given.now c.args.entry.now v) _ _
    c.append.ensures.view (record {
      here = c.append.ensures.place ∙ is.here;
      laid = c.append.ensures.layout ∙ is.laid;
      begun = is.begun;
      counted = (let a = is.counted in omega arith);
      kept = appended_kept y v c.self.inside.slots.items c.args.process c.args.changes.now c.args.given.now
          c.args.entry.now c.put_changes.new.slots.items shows;
    })
