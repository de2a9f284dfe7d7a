use Rattle.mx_drill.proofs.WritingLaws.{line_more}
use Rattle.mx_script.specs.declared.rows.Row.TheVariants.{Line as LineRow}
use Rattle.mx_drill.proofs.writing.add_script.Goals as goal

pub loop-line-preserved : goal.loop-line-preserved
loop-line-preserved c =
    line_more LineRow c.args.script.now c.loop-line.line-index c.line-item.result c.args.out.now.items c.loop-line.out.items _ _
    c.loop-line-test.true c.line-item.is c.loop-line.invariant c.in_ok-append_to.ensures c.in_ok-extend_from_slice.ensures.items
