use Rattle.std.proofs.Common.{take}
use Rattle.mx_points.specs.Own.{HasPassed}
use Rattle.mx_points.proofs.naming.after_events.Given as goal

-- those that the events before name are passed
abbrev pub invariant-loop-event : goal.invariant-loop-event
invariant-loop-event l = HasPassed l.p l.journal l.from (take l.event-index l.events) l.next
