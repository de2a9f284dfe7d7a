use Rattle.std.proofs.Common.{◌≡◌, ◌++◌, map, drop}
use Rattle.mx_judging.specs.Cutting.{all_begun, numbers_of}
use Rattle.mx_judging.specs.Stories.{AreRising, times_of}
use Rattle.mx_judging.proofs.cutting.courses_of.Given as goal

-- the processes so far, and behind them the others
abbrev pub invariant-loop-transcript : goal.invariant-loop-transcript
invariant-loop-transcript l = record {
  rising : AreRising (times_of l.courses.items);
  lines : all_begun l.courses.items ++ map numbers_of (drop l.transcript-index l.transcripts) ≡ map numbers_of l.transcripts;
}
