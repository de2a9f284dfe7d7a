use Rattle.std.proofs.Common.{arith}
use Rattle.mx_outcomes.proofs.CountLaws.{next_is, product_fits, too_many}
use Rattle.mx_outcomes.proofs.orders.times_ways.Goals as goal

pub overflow_mul-next : goal.overflow_mul-next
overflow_mul-next c = omega (
  arith,
  product_fits c.from.result c.from-in-loop-chosen.result (omega (arith, c.from.ensures, c.loop-chosen.invariant.fits))
      (omega (arith, c.from-in-loop-chosen.ensures)),
)

pub returns-in_default-clause-none : goal.returns-in_default-clause-none
returns-in_default-clause-none c = too_many c.loop-chosen.all c.args.ways c.args.before c.loop-chosen.chosen c.args.count _ _ _
    c.loop-chosen-test.true c.loop-chosen.invariant.is c.from.ensures c.from-in-loop-chosen.ensures c.from-in-loop-chosen-2.ensures
    c.in_default.ensures

pub loop-chosen-preserved : goal.loop-chosen-preserved
loop-chosen-preserved c = record {
  is = next_is c.loop-chosen.all c.in-Ok.fitting c.args.ways c.args.before c.loop-chosen.chosen _ _ _ c.loop-chosen.invariant.is
      c.from.ensures c.from-in-loop-chosen.ensures c.from-in-loop-chosen-2.ensures c.in-Ok.ensures.1;
  fits = omega (arith, c.in-Ok.ensures.0, c.in-Ok.ensures.1);
}
