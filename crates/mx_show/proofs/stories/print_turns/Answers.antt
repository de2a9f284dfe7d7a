use Rattle.std.proofs.Common.{rules}
use Rattle.mx_show.proofs.PrintingLaws.{printed_none, printed_more}
use Rattle.mx_show.proofs.stories.print_turns.Goals as goal

pub loop-turn-init : goal.loop-turn-init
loop-turn-init g c = record {
  printed = printed_none _ _;
  same = search rules;
}

pub loop-turn-preserved : goal.loop-turn-preserved
loop-turn-preserved g c = record {
  printed = printed_more _ _ _ _ _ _ _ _ c.loop-turn.invariant.printed c.in_ok-extend_from_slice.ensures.items
      c.in_ok-send_when_long.ensures.sent;
  same = search rules;
}
