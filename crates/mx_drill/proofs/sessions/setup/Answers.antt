use Rattle.std.proofs.Common.{arith}
use Rattle.mx_drill.specs.Drills.{segment_setup}
use Rattle.mx_drill.proofs.ListLaws.{piece_added}
use Rattle.mx_drill.proofs.sessions.setup.Goals as goal

pub loop-s-preserved : goal.loop-s-preserved
loop-s-preserved c = record {
  made = piece_added segment_setup c.loop-s.s c.push.new.self c.loop-s.setup c.add_segment.new.setup c.loop-s.invariant.least
      c.loop-s.invariant.made c.in_ok-add_segment.ensures;
  least = omega arith;
  most = omega arith;
}
