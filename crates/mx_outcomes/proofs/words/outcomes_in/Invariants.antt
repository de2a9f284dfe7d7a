use Rattle.std.proofs.Common.{◌≡◌, take}
use Rattle.std.specs.List.{flat_map}
use Rattle.mx_outcomes.specs.Words.{outcomes_of}
use Rattle.mx_outcomes.proofs.words.outcomes_in.Given as goal

abbrev pub invariant-loop-transcript : goal.invariant-loop-transcript
invariant-loop-transcript l = l.outcomes.items ≡ flat_map (outcomes_of l.journal) (take l.transcript-index l.transcripts)
