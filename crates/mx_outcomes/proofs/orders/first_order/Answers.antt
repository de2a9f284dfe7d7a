use Rattle.mx_outcomes.proofs.FirstLaws.{is_first, right_more, rising_more, up_more}
use Rattle.mx_outcomes.proofs.orders.first_order.Goals as goal

pub loop-place-preserved : goal.loop-place-preserved
loop-place-preserved c = record {
  interleaving = right_more c.args.counts.now c.loop-place.order.items c.add_lines.new.order.items c.loop-place.place
      c.loop-place-test.true c.loop-place.invariant.interleaving c.loop-place.invariant.rising c.loop-place.invariant.up
      c.in_ok-add_lines.ensures;
  rising = rising_more c.args.counts.now c.loop-place.order.items c.add_lines.new.order.items c.loop-place.place
      c.loop-place-test.true c.loop-place.invariant.interleaving c.loop-place.invariant.rising c.loop-place.invariant.up
      c.in_ok-add_lines.ensures;
  up = up_more c.args.counts.now c.loop-place.order.items c.add_lines.new.order.items c.loop-place.place
      c.loop-place-test.true c.loop-place.invariant.interleaving c.loop-place.invariant.rising c.loop-place.invariant.up
      c.in_ok-add_lines.ensures;
}

pub returns-clause-first : goal.returns-clause-first
returns-clause-first c = is_first c.loop-place.order.items c.loop-place.invariant.rising
