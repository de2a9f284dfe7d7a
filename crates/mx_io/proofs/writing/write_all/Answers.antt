use Rattle.std.proofs.Common.{arith, length-drop, length-take}
use Rattle.mx_io.proofs.BytesLaws.{appends_more}
use Rattle.mx_io.proofs.writing.write_all.Goals as goal

pub loop-written-preserved : goal.loop-written-preserved
loop-written-preserved g c = record {
  appends = appends_more _ _ _ _ _ _ c.loop-written.invariant.appends c.in-Bytes.ensures.bytes;
  same = omega (arith, c.in-Bytes.ensures.only (λ e. cc), c.loop-written.invariant.same);
  within = let counted = simp (length-take, length-drop) at (c.in-Bytes.ensures.count.1) in omega arith;
}
