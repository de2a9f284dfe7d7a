use Rattle.std.proofs.Common.{Some, sym, subst}
use Rattle.mx_reader.proofs.PartLaws.{followed_on}
use Rattle.mx_reader.specs.Progress.{Follows}
use Rattle.mx_reader.proofs.parts.read_steps.Goals as goal

pub loop-line-preserved : goal.loop-line-preserved
loop-line-preserved c =
    let follows : Follows c.loop-line.recording c.in-Some.line.now c.add_line.new.recording (Some c.in-Some-2.goes)
    = subst (Follows c.loop-line.recording c.in-Some.line.now c.add_line.new.recording) c.in-Some-2.is
    c.in_ok-goes.ensures.goes in
    record {
      followed = followed_on _ c.loop-line.rest.now _ _ _ _ (c.in-Some.line.now, c.in-Some.after.now)
          c.loop-line.invariant.followed (sym c.in-Some.ensures.cut) follows.0;
      at_work = follows.1;
    }
