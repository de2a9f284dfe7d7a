use Rattle.mx_outcomes.proofs.TurnLaws.{successor_found, up_to_all, up_to_next}
use Rattle.mx_outcomes.proofs.orders.successor_of.Goals as goal

pub returns-then-process-pivot : goal.returns-then-process-pivot
returns-then-process-pivot c = successor_found c.args.order.now c.loop-place.place c.args.pivot c.loop-place-test.true c.loop-place.invariant
    c.if-process-pivot.true

pub loop-place-preserved : goal.loop-place-preserved
loop-place-preserved c = up_to_next c.args.order.now c.loop-place.place c.args.pivot c.loop-place-test.true c.loop-place.invariant
    c.if-process-pivot.false

pub returns : goal.returns
returns c = up_to_all c.args.order.now c.loop-place.place c.args.pivot c.loop-place-test.false c.loop-place.invariant
