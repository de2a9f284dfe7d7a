use Rattle.std.proofs.Common.{◌≡◌, ◌+◌, ◌++◌, length, map}
use Rattle.mx_access.specs.Questions.{question_of, turns_from}
use Rattle.mx_transcript.specs.Transcripts.{events_of}
use Rattle.mx_access.proofs.questions.add_part.Given as goal

-- the turns so far, and those of the questions about the lines that are left
abbrev pub invariant-loop-events : goal.invariant-loop-events
invariant-loop-events l = record {
  turns : l.turns.items ++ turns_from l.next (map (question_of l.entries l.p) (events_of l.events-iterator))
      ≡ l.initial.turns.items ++ turns_from l.at (map (question_of l.entries l.p) (events_of l.transcript));
  next : l.next + length (events_of l.events-iterator) ≡ l.at + length (events_of l.transcript);
}
