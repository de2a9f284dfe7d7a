use Rattle.std.proofs.Common.{rules}
use Rattle.mx_picture.proofs.PageLaws.{gains_none, gains_more, gains_sent}
use Rattle.mx_picture.proofs.tables.send_entries.Goals as goal

pub loop-entry-init : goal.loop-entry-init
loop-entry-init g c = record {
  sent = gains_none _;
  same = search rules;
}

pub loop-entry-preserved : goal.loop-entry-preserved
loop-entry-preserved g c = record {
  sent = gains_more _ _ _ c.loop-entry.invariant.sent (gains_sent _ _ _ _ c.in_ok-send_when_long.ensures.sent);
  same = search rules;
}
