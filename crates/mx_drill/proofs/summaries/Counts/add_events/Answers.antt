use Rattle.mx_drill.proofs.CountLaws.{event_more}
use Rattle.mx_drill.proofs.summaries.Counts.add_events.Goals as goal

pub loop-event-preserved : goal.loop-event-preserved
loop-event-preserved c =
    event_more _ _ _ c.args.events.now c.loop-event.event-index c.event-item.result c.loop-event-test.true c.event-item.is
    c.loop-event.invariant c.in_ok-add_event.ensures
