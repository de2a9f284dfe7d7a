use Rattle.std.proofs.Common.{◌≡◌, ◌++◌}
use Rattle.mx_transcript.specs.Transcripts.{events_of}
use Rattle.mx_judging.specs.References.{own_references}
use Rattle.mx_judging.proofs.judging.add_own_references.Given as goal

-- those of the lines so far, and behind them those of the others
abbrev pub invariant-loop-events : goal.invariant-loop-events
invariant-loop-events l =
    l.found.items ++ own_references l.process (events_of l.events-iterator)
    ≡ l.initial.found.items ++ own_references l.process (events_of l.transcript)
