use Rattle.std.proofs.Common.{rules, ℕ, refl, ap, ◌∙◌, List, Bor}
use Rattle.mx_object.proofs.TwiceLaws.{at_first, step, twice_after}
use Rattle.mx_object.proofs.objects.repeats.Goals as goal

pub loop-symbol-init : goal.loop-symbol-init
loop-symbol-init c =
    ap (λ (seen : List (Bor (List ℕ))). twice_after seen c.args.definitions.now) c.new-seen.ensures.empty ∙ at_first c.args.definitions.now

pub loop-symbol-preserved : goal.loop-symbol-preserved
loop-symbol-preserved c =
    step c.loop-symbol.seen.keys c.insert.new.self.keys _ c.in_ok-insert.field-0 _ c.args.definitions.now c.loop-symbol.symbol-index c.loop-symbol-item.result (search rules) c.loop-symbol-item.is refl
    c.in_ok-insert.ensures.added c.if-not-branch.false c.in_ok-insert.ensures.keys c.loop-symbol.invariant
