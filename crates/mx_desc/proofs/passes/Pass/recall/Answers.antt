use Rattle.std.proofs.Common.{◌≡◌, ℕ, ◌++◌, ◌∷◌, [], sym, ap, ◌∙◌, subst, rules}
use Rattle.mx_core.specs.Judging.{at_once}
use Rattle.mx_core.specs.Loading.{element_of}
use Rattle.std.specs.Prelude.{List, option_map}
use Rattle.mx_core.specs.declared.elements.Element.{Element}
use Rattle.mx_core.specs.declared.elements.Kept.{Kept}
use Rattle.mx_core.specs.declared.elements.Kept.TheVariants.{Judged}
use Rattle.mx_core.specs.declared.words.Asked.{Asked}
use Rattle.mx_rule.specs.Loading.{judged_view}
use Rattle.mx_rule.specs.Seats.{pass_of}
use Rattle.mx_rule.specs.declared.views.PassView.{PassView}
use Rattle.mx_rule.proofs.Holdings.{judged_unmoved}
use Rattle.mx_desc.specs.Completing.{AwaitsCellUnless}
use Rattle.mx_desc.specs.Referring.{HasSeen}
use Rattle.mx_desc.proofs.Keeping.{still_seen}
use Rattle.mx_desc.proofs.Refers.{waits_by}
use Rattle.mx_desc.proofs.Seeing.{seen_then}
use Rattle.mx_desc.proofs.passes.Pass.recall.Goals as goal

pub complete-outcome-requires-clause-waits : goal.complete-outcome-requires-clause-waits
complete-outcome-requires-clause-waits g c =
    let on = c.args.on.now in
    let v = pass_of c.self.inside.seat.seat.me.0 in
    let a = c.asked_of-asked.result in
    let asked : a ≡ record { op = c.args.op; ring = c.args.ring; word = c.args.word } = search rules in
    let is = c.recall.ensures.view ∙ (λ i. judged_view (at_once on.desc (sym asked i)) on (sym asked i) v) in
    subst (AwaitsCellUnless (at_once on.desc a) on a) (sym is) (waits_by (at_once on.desc a) on a v)

pub invariant_of-self : goal.invariant_of-self
invariant_of-self g c =
    let on = c.args.on.now in
    let v = pass_of c.self.inside.seat.seat.me.0 in
    let a = c.asked_of-asked.result in
    let asked : a ≡ record { op = c.args.op; ring = c.args.ring; word = c.args.word } = search rules in
    let is = c.recall.ensures.view ∙ (λ i. judged_view (at_once on.desc (sym asked i)) on (sym asked i) v) in
    let at = sym (judged_unmoved (at_once on.desc a) on a v).floor
    ∙ ap (λ (z : PassView g.row.E.Denot). z.floor) (sym is) ∙ c.recall.new.self.floor_is in
    let seen = subst (λ (f : ℕ). HasSeen on a c.args.value v (element_of on.segno a f c.complete-outcome.result)
    (pass_of c.complete-outcome.new.seat.seat.me.0)) at
    (seen_then on a c.args.value v _ (pass_of c.complete-outcome.new.seat.seat.me.0) c.complete-outcome.result is
    c.complete-outcome.ensures.done) in
    let kept = c.push.ensures.kept ∙ (λ i. option_map (λ (b : List Kept). b ++ (c.kept.ensures
    ∙ (λ j. Judged (c.element-element.ensures j) a.op on.desc)) i ∷ []) c.self.inside.trace.kept) in
    still_seen _ _ _ _ _ _ _ _ v _ _ _ _ _ c.self.invariant (c.complete-outcome.ensures.place ∙ c.recall.ensures.place)
    (c.complete-outcome.ensures.layout ∙ c.recall.ensures.layout) v.memory on a c.args.value _ seen kept
    c.put.ensures

pub returns-clause-seen : goal.returns-clause-seen
returns-clause-seen g c =
    let on = c.args.on.now in
    let v = pass_of c.self.inside.seat.seat.me.0 in
    let a = c.asked_of-asked.result in
    let asked : a ≡ record { op = c.args.op; ring = c.args.ring; word = c.args.word } = search rules in
    let is = c.recall.ensures.view ∙ (λ i. judged_view (at_once on.desc (sym asked i)) on (sym asked i) v) in
    let at = sym (judged_unmoved (at_once on.desc a) on a v).floor
    ∙ ap (λ (z : PassView g.row.E.Denot). z.floor) (sym is) ∙ c.recall.new.self.floor_is in
    let seen = subst (λ (f : ℕ). HasSeen on a c.args.value v (element_of on.segno a f c.complete-outcome.result)
    (pass_of c.complete-outcome.new.seat.seat.me.0)) at
    (seen_then on a c.args.value v _ (pass_of c.complete-outcome.new.seat.seat.me.0) c.complete-outcome.result is
    c.complete-outcome.ensures.done) in
    let view : v ≡ c.args.self.now.view = search rules in
    subst (λ (z : PassView g.row.E.Denot × Asked × Element). HasSeen on z.1 c.args.value z.0 z.2
    (pass_of c.complete-outcome.new.seat.seat.me.0))
    (λ i. (view i, asked i, sym c.element-element.ensures i)) seen
