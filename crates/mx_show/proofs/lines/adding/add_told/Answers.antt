use Rattle.std.proofs.Common.{sym}
use Rattle.mx_show.proofs.LinesLaws.{told_more}
use Rattle.mx_show.proofs.lines.adding.add_told.Goals as goal

pub loop-line-preserved : goal.loop-line-preserved
loop-line-preserved c =
    told_more c.args.out.now.items c.loop-line.out.items c.add_told_line.new.out.items c.loop-line.rest.now (c.in-Some.line.now, c.in-Some.after.now)
    c.loop-line.invariant (sym c.in-Some.ensures.cut) c.in_ok-add_told_line.ensures
