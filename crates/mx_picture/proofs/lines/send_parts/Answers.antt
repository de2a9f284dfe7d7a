use Rattle.std.proofs.Common.{rules}
use Rattle.mx_picture.proofs.PageLaws.{gains_none, gains_more}
use Rattle.mx_picture.proofs.lines.send_parts.Goals as goal

pub loop-transcript-init : goal.loop-transcript-init
loop-transcript-init g c = record {
  sent = gains_none _;
  same = search rules;
}

pub loop-transcript-preserved : goal.loop-transcript-preserved
loop-transcript-preserved g c = record {
  sent = gains_more _ _ _ c.loop-transcript.invariant.sent c.in_ok-send_part.ensures.sent;
  same = search rules;
}
