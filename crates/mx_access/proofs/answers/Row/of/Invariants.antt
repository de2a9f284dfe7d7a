use Rattle.std.proofs.Common.{◌≡◌, ◌++◌, map}
use Rattle.mx_access.specs.Answers.{is_changed, judged_on, missed_changed}
use Rattle.mx_access.specs.Rows.{AreToldOf, deed_of_process}
use Rattle.mx_transcript.specs.Access.{descriptor_of}
use Rattle.mx_transcript.specs.Transcripts.{events_of}
use Rattle.mx_access.proofs.answers.Row.of.Given as goal

-- the row so far, and what was told of the events that are left
abbrev pub invariant-loop-events : goal.invariant-loop-events
invariant-loop-events l = record {
  deeds : l.row.deeds ++ map (deed_of_process l.session l.entries l.p) (events_of l.events-iterator)
      ≡ map (deed_of_process l.session l.entries l.p) (events_of l.transcript);
  descriptors : l.row.descriptors ++ map (judged_on (descriptor_of l.session l.entries l.p)) (events_of l.events-iterator)
      ≡ map (judged_on (descriptor_of l.session l.entries l.p)) (events_of l.transcript);
  changes : l.row.changes ++ map (missed_changed (is_changed l.session l.entries l.p)) (events_of l.events-iterator)
      ≡ map (missed_changed (is_changed l.session l.entries l.p)) (events_of l.transcript);
  told : AreToldOf l.session l.entries l.p (events_of l.events-iterator) l.left;
}
