use Rattle.mx_judging.proofs.ReferenceLaws.{drop_next, event_more}
use Rattle.mx_judging.proofs.judging.add_references.Goals as goal

pub loop-event-preserved : goal.loop-event-preserved
loop-event-preserved c =
    event_more c.args.process _ _ _ _ _ _ c.loop-event.invariant (drop_next _ _ _ c.loop-event-test.true c.event-item.is)
    c.in_ok-add_reference.ensures
