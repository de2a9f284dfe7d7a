use Rattle.std.proofs.Common.{arith}
use Rattle.mx_access.proofs.AllRowLaws.{made_more}
use Rattle.mx_access.proofs.access.add_rows.Goals as goal

pub loop-p-preserved : goal.loop-p-preserved
loop-p-preserved c = record {
  long = search arith;
  each = made_more c.args.session.now c.args.entries.now c.args.transcripts.now c.loop-p.rows.items c.push.new.self.items c.row_at.result
      c.loop-p.p c.loop-p.invariant.long c.in_ok-push.ensures.items c.loop-p.invariant.each c.row_at.ensures;
}
