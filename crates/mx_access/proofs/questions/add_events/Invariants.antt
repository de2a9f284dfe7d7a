use Rattle.std.proofs.Common.{◌≡◌, ◌+◌, ◌++◌, map, take}
use Rattle.mx_access.specs.Questions.{question_of, turns_from}
use Rattle.mx_access.proofs.questions.add_events.Given as goal

abbrev pub invariant-loop-event : goal.invariant-loop-event
invariant-loop-event l = record {
  turns : l.turns.items ≡ l.initial.turns.items ++ turns_from l.at (map (question_of l.entries l.p) (take l.event-index l.events));
  next : l.next ≡ l.at + l.event-index;
}
