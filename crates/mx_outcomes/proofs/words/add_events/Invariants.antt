use Rattle.std.proofs.Common.{◌≡◌, ◌++◌, drop}
use Rattle.mx_outcomes.specs.Words.{events_words}
use Rattle.mx_outcomes.proofs.words.add_events.Given as goal

abbrev pub invariant-loop-event : goal.invariant-loop-event
invariant-loop-event l = l.out.items ++ events_words l.journal (drop l.event-index l.events) ≡ l.initial.out.items ++ events_words l.journal l.events
