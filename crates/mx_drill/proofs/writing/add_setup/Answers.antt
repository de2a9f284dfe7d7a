use Rattle.mx_drill.proofs.WritingLaws.{line_more}
use Rattle.mx_script.specs.SessionTexts.{asked}
use Rattle.mx_drill.proofs.writing.add_setup.Goals as goal

pub loop-request-preserved : goal.loop-request-preserved
loop-request-preserved c =
    line_more asked c.args.setup.now c.loop-request.request-index c.request-item.result c.args.out.now.items c.loop-request.out.items _ _
    c.loop-request-test.true c.request-item.is c.loop-request.invariant c.in_ok-add_request.ensures c.in_ok-extend_from_slice.ensures.items
