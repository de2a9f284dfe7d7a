use Rattle.std.proofs.Common.{◌≡◌, drop}
use Rattle.mx_transcript.specs.Transcripts.{entries_named}
use Rattle.mx_legal.proofs.fronts.names_none.Given as goal

abbrev pub invariant-loop-event : goal.invariant-loop-event
invariant-loop-event l = entries_named l.events ≡ entries_named (drop l.event-index l.events)
