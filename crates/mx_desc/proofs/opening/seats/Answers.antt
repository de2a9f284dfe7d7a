use Rattle.std.proofs.Common.{ℕ, ◌+◌, List, Option, is_some, length, length-append, sym, ap, ◌∙◌, subst, arith}
use Rattle.mx_rule.specs.Dealing.{dealing_view}
use Rattle.mx_rule.specs.Shown.{fresh_view}
use Rattle.mx_core.specs.declared.changes.Change.{Change}
use Rattle.mx_core.specs.declared.elements.Kept.{Kept}
use Rattle.mx_rule.specs.Seats.{super_of}
use Rattle.mx_rule.specs.declared.layout.Layout.{Layout}
use Rattle.mx_desc.specs.Openings.{AreFreshPasses}
use Rattle.mx_desc.specs.Slots.{AreSlotted}
use Rattle.mx_desc.specs.Supers.{AreKept}
use Rattle.mx_desc.proofs.KeptLaws.{AreBlank, are_placed, blank_kept, moved, opening_counted}
use Rattle.mx_desc.specs.Passes.{PassValue}
use Rattle.mx_desc.proofs.FreshPasses.{one_more_pass}
use Rattle.mx_desc.proofs.opening.seats.Goals as goal

pub loop-dealt-preserved : goal.loop-dealt-preserved
loop-dealt-preserved g c =
    let start = g.B.Naming.start in
    let dealt = c.loop-dealt.dealt in
    let was = c.loop-dealt.invariant in
    let view = c.deal.ensures.pass ∙ (λ i. fresh_view (was.0 i).start (was.0 i).next)
    ∙ (λ i. fresh_view (c.requires.opening.begun i) (dealt + 1)) in (
      c.deal.ensures.view ∙ ap dealing_view was.0,
      subst (AreFreshPasses start 1) (sym c.in_ok-push.ensures.ok)
          (one_more_pass start 1 (dealt + 1) c.loop-dealt.passes _ was.1 (let a = was.2 in omega arith) view
          c.split_off.ensures.amount (ap (λ (k : Option (List Kept)). is_some k) c.new.ensures)),
      ap (λ (l : List (PassValue g.row.E.Denot)). length l) c.in_ok-push.ensures.ok
          ∙ length-append c.loop-dealt.passes _ ∙ ap (λ (k : ℕ). k + 1) was.2,
      c.deal.ensures.place ∙ was.3,
      c.deal.ensures.layout ∙ was.4,
      (let a = c.split_off.ensures.parts_left in let b = was.5 in omega arith),
      (let a = c.split_off.ensures.amount_left in let b = was.6 in omega arith),
    )

pub opening_slots-requires-clause-each : goal.opening_slots-requires-clause-each
opening_slots-requires-clause-each g c =
    subst (AreSlotted c.args.chief.layout) (sym c.items.ensures)
    (subst (λ (y : Layout). AreSlotted y c.args.base.now) (sym c.requires.laid)
    (are_placed g.B.Naming.layout c.args.base.now c.requires.placed))

pub invariant_of-chief : goal.invariant_of-chief
invariant_of-chief g c =
    let was = c.loop-dealt.invariant in
    let v = super_of c.args.chief.seat.me.0 in
    let opening = c.requires.opening in
    let base = subst (λ (l : List Change). AreBlank c.args.chief.layout l c.in_ok-slots.slots.items)
    (c.items.ensures ∙ c.requires.base)
    c.in_ok-slots.ensures in
    moved _ _ _ _ _ (record v { next = c.loop-dealt.dealt + 1 }) _ _ was.0 (record {
      here = was.3;
      laid = was.4;
      begun = opening.begun;
      counted = opening_counted g.B.Naming.start v opening;
      kept = subst (λ (y : Layout). AreKept y v c.in_ok-slots.slots.items) (c.requires.laid ∙ sym was.4)
          (blank_kept c.args.chief.layout v c.in_ok-slots.slots.items opening.none opening.unwritten base);
    })
