use Rattle.std.proofs.Common.{arith}
use Rattle.mx_explain.proofs.OrderLaws.{choice_more}
use Rattle.mx_explain.proofs.orders.choices.Goals as goal

pub loop-preserved : goal.loop-preserved
loop-preserved c = record {
  made = choice_more _ _ _ _ _ _ _ _ _ c.loop.invariant.made (omega arith) c.next_state-state.ensures c.chosen.ensures c.in_ok-push.ensures.items;
  within = omega arith;
}
