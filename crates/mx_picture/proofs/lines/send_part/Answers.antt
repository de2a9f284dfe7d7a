use Rattle.std.proofs.Common.{rules}
use Rattle.mx_picture.proofs.PageLaws.{gains_none, gains_more, gains_sent}
use Rattle.mx_picture.proofs.lines.send_part.Goals as goal

pub loop-number-init : goal.loop-number-init
loop-number-init g c = record {
  sent = gains_none _;
  same = search rules;
}

pub loop-number-preserved : goal.loop-number-preserved
loop-number-preserved g c = record {
  sent = gains_more _ _ _ c.loop-number.invariant.sent (gains_sent _ _ _ _ c.in_ok-send_when_long.ensures.sent);
  same = search rules;
}
