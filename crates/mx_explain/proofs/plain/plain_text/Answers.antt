use Rattle.std.proofs.Common.{sym}
use Rattle.mx_explain.proofs.PlainLaws.{line_done, last_done}
use Rattle.mx_explain.proofs.plain.plain_text.Goals as goal

pub loop-after-preserved : goal.loop-after-preserved
loop-after-preserved c =
    line_done _ _ _ _ (c.in-Some.field-0-0.now, c.in-Some.after.now) c.loop-after.invariant (sym c.in-Some.ensures.cut) c.in_ok-add_line.ensures

pub returns : goal.returns
returns c = last_done _ _ _ _ c.loop-after.invariant (sym c.in_default.ensures.cut) c.in_ok-add_line-2.ensures
