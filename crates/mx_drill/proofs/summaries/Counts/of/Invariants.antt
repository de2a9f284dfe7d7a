use Rattle.std.proofs.Common.{take}
use Rattle.mx_drill.specs.Counting.{Counted}
use Rattle.mx_drill.specs.Summaries.{references_of}
use Rattle.mx_drill.proofs.summaries.Counts.of.Given as goal

abbrev pub invariant-loop-transcript : goal.invariant-loop-transcript
invariant-loop-transcript l = Counted l.initial.counts (references_of (take l.transcript-index l.transcripts)) l.counts
