use Rattle.mx_outcomes.proofs.CountLaws.{all_counted, all_too_many, sum_more, ways_more}
use Rattle.mx_outcomes.proofs.orders.count_orders.Goals as goal

pub returns-in_default : goal.returns-in_default
returns-in_default c = all_too_many c.args.counts.now c.loop-count.count-index c.loop-count.ways c.loop-count.before c.loop-count-test.true
    c.loop-count.invariant.before c.loop-count.invariant.ways c.in_default.ensures.none

pub loop-count-preserved : goal.loop-count-preserved
loop-count-preserved c = record {
  before = sum_more c.args.counts.now c.loop-count.count-index c.loop-count.ways c.loop-count.before c.loop-count-test.true
      c.loop-count.invariant.before c.loop-count.invariant.ways;
  ways = ways_more c.args.counts.now c.loop-count.count-index c.loop-count.ways c.loop-count.before c.loop-count-test.true
      c.loop-count.invariant.before c.loop-count.invariant.ways c.in-Some.more c.in-Some.ensures.some;
  fits = c.in-Some.ensures.fits;
}

pub returns : goal.returns
returns c = all_counted c.args.counts.now c.loop-count.count-index c.loop-count.ways c.loop-count.before c.loop-count-test.false
    c.loop-count.invariant.ways c.loop-count.invariant.fits
