use Rattle.std.proofs.Common.{◌≡◌, ◌∷◌, rules}
use Rattle.mx_judging.proofs.ReferenceLaws.{step_more}
use Rattle.mx_judging.proofs.judging.add_own_references.Goals as goal

pub loop-events-preserved : goal.loop-events-preserved
loop-events-preserved c =
    let next : c.loop-events.events-iterator ≡ (c.in-Some.field-0-0, c.in-Some.events.now, c.in-Some.field-0-2) ∷ c.next.new.self = search rules in
    step_more c.args.process _ _ _ _ _ _ c.loop-events.invariant next c.in_ok-add_references.ensures
