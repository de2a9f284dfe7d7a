use Rattle.std.proofs.Common.{◌≡◌, ◌+◌, length, take}
use Rattle.mx_transcript.specs.Transcripts.{events_of}
use Rattle.mx_points.proofs.lines.line_of_event.Given as goal

-- the events of the lines before are passed
abbrev pub invariant-loop-k : goal.invariant-loop-k
invariant-loop-k l = l.place ≡ l.left + length (events_of (take l.k l.lines))
