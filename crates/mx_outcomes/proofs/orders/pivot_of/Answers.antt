use Rattle.std.proofs.Common.{arith}
use Rattle.mx_outcomes.proofs.TurnLaws.{all_falling, falling_end, falling_more, pivot_found}
use Rattle.mx_outcomes.proofs.orders.pivot_of.Goals as goal

pub loop-place-init : goal.loop-place-init
loop-place-init c = record {
  within = omega (arith, c.saturating_sub-place.ensures);
  falling = falling_end c.args.order.now _ c.saturating_sub-place.ensures;
}

pub returns-then-order-place : goal.returns-then-order-place
returns-then-order-place c = pivot_found c.args.order.now c.loop-place.place c.loop-place-test.true c.loop-place.invariant.within
    c.loop-place.invariant.falling c.if-order-place.true

pub loop-place-preserved : goal.loop-place-preserved
loop-place-preserved c = record {
  within = omega (arith, c.loop-place.invariant.within);
  falling = falling_more c.args.order.now c.loop-place.place c.loop-place-test.true c.loop-place.invariant.within
      c.loop-place.invariant.falling c.if-order-place.false;
}

pub returns : goal.returns
returns c = all_falling c.args.order.now c.loop-place.place c.loop-place-test.false c.loop-place.invariant.falling
