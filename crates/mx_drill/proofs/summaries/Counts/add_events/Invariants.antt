use Rattle.std.proofs.Common.{take}
use Rattle.mx_drill.specs.Counting.{Counted}
use Rattle.mx_drill.specs.Summaries.{references_among}
use Rattle.mx_drill.proofs.summaries.Counts.add_events.Given as goal

abbrev pub invariant-loop-event : goal.invariant-loop-event
invariant-loop-event l = Counted l.initial.self (references_among (take l.event-index l.events)) l.self
