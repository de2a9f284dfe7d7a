use Rattle.std.proofs.Common.{◌≡◌, Some, length, refl, sym, subst}
use Rattle.std.specs.List.{slice_get}
use Rattle.std.proofs.lemmas.Option.{slice_get_read}
use Rattle.mx_points.specs.Own.{IsPassage}
use Rattle.mx_points.proofs.NamingLaws.{passed_one, stopped_at}
use Rattle.mx_points.proofs.naming.after_events.Goals as goal

pub returns-in_err-next : goal.returns-in_err-next
returns-in_err-next c =
    let at : slice_get c.args.events.now c.loop-event.event-index ≡ Some c.event-item.result =
    slice_get_read c.args.events.now (length c.args.events.now) c.loop-event.event-index c.event-item.result refl c.loop-event-test.true c.event-item.is in
    subst (IsPassage c.args.p c.args.journal.now c.args.from c.args.events.now) (sym c.from_residual.ensures)
    (stopped_at c.args.p c.args.journal.now c.args.from c.loop-event.next c.args.events.now c.loop-event.event-index c.event-item.result at
    c.loop-event.invariant c.in_err-next.ensures)

pub loop-event-preserved : goal.loop-event-preserved
loop-event-preserved c =
    let at : slice_get c.args.events.now c.loop-event.event-index ≡ Some c.event-item.result =
    slice_get_read c.args.events.now (length c.args.events.now) c.loop-event.event-index c.event-item.result refl c.loop-event-test.true c.event-item.is in
    passed_one c.args.p c.args.journal.now c.args.from c.loop-event.next c.in_ok-next.next c.args.events.now c.loop-event.event-index
    c.event-item.result at c.loop-event.invariant c.in_ok-next.ensures
