use Rattle.std.proofs.Common.{◌≡◌, ◌∷◌, rules}
use Rattle.mx_drill.proofs.CountLaws.{step_more}
use Rattle.mx_drill.proofs.summaries.Counts.add_part.Goals as goal

pub loop-number-preserved : goal.loop-number-preserved
loop-number-preserved c =
    let next : c.loop-number.number-iterator ≡ (c.in-Some.number, c.in-Some.events.now, c.in-Some.ends) ∷ c.next.new.self = search rules in
    step_more _ _ _ _ _ _ _ c.loop-number.invariant next c.in_ok-add_events.ensures
