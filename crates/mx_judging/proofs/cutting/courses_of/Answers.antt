use Rattle.std.proofs.lemmas.List.{drop_all}
use Rattle.mx_judging.proofs.ReferenceLaws.{drop_next}
use Rattle.mx_judging.specs.Cutting.{numbers_of}
use Rattle.mx_judging.proofs.CuttingLaws.{rising_next, begun_next, begun_done}
use Rattle.mx_judging.proofs.cutting.courses_of.Goals as goal

pub loop-transcript-preserved : goal.loop-transcript-preserved
loop-transcript-preserved c = record {
  rising = rising_next _ _ _ c.loop-transcript.invariant.rising c.in_ok-course.ensures.rising c.in_ok-push.ensures.items;
  lines = begun_next numbers_of _ _ _ _ _ _ _ c.loop-transcript.invariant.lines
      (drop_next _ _ _ c.loop-transcript-test.true c.transcript-item.is) c.in_ok-course.ensures.lines c.in_ok-push.ensures.items;
}

pub returns-clause-lines : goal.returns-clause-lines
returns-clause-lines c =
    begun_done numbers_of _ _ _ c.loop-transcript.invariant.lines (drop_all _ _ c.loop-transcript-test.false)
