use Rattle.std.proofs.Common.{◌≡◌, ◌++◌, map, take}
use Rattle.mx_access.specs.Answers.{is_changed, judged_on, missed_changed}
use Rattle.mx_access.specs.Rows.{deed_of_process}
use Rattle.mx_transcript.specs.Access.{descriptor_of}
use Rattle.mx_access.proofs.answers.Row.add.Given as goal

-- the events before this place were added
abbrev pub invariant-loop-place : goal.invariant-loop-place
invariant-loop-place l = record {
  deeds : l.self.deeds ≡ l.initial.self.deeds ++ map (deed_of_process l.session l.entries l.p) (take l.place l.events);
  descriptors : l.self.descriptors ≡ l.initial.self.descriptors ++ map (judged_on (descriptor_of l.session l.entries l.p)) (take l.place l.events);
  changes : l.self.changes ≡ l.initial.self.changes ++ map (missed_changed (is_changed l.session l.entries l.p)) (take l.place l.events);
}
