use Rattle.std.proofs.Common.{◌≡◌, drop}
use Rattle.mx_transcript.specs.Transcripts.{entries_named}
use Rattle.mx_points.proofs.lines.Line.names_none.Given as goal

-- no event before names an entry
abbrev pub invariant-loop-event : goal.invariant-loop-event
invariant-loop-event l = entries_named l.self.1 ≡ entries_named (drop l.event-index l.self.1)
