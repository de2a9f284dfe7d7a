use Rattle.std.proofs.Common.{◌≡◌, ℕ, ◌<◌, length, map, take}
use Rattle.std.specs.List.{slice_index_or}
use Rattle.mx_access.specs.Questions.{questions_from, turns_from}
use Rattle.mx_transcript.specs.Transcripts.{events_of}
use Rattle.mx_access.proofs.questions.all_turns.Given as goal

abbrev pub invariant-loop-p : goal.invariant-loop-p
invariant-loop-p l = record {
  turns : l.turns.items ≡ turns_from 0 (questions_from l.entries 0 (take l.p (map events_of l.transcripts)));
  count : l.count ≡ length (questions_from l.entries 0 (take l.p (map events_of l.transcripts)));
  long : length l.starts.items ≡ l.p;
  each : (q : ℕ) → q < l.p
      → slice_index_or l.starts.items q 0 ≡ length (questions_from l.entries 0 (take q (map events_of l.transcripts)));
}
