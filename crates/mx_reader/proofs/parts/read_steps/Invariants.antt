use Rattle.std.proofs.Common.{◌≡◌, length}
use Rattle.mx_reader.specs.Parts.{HasFollowed}
use Rattle.mx_reader.specs.Progress.{is_some_event}
use Rattle.mx_reader.proofs.parts.read_steps.Given as goal

abbrev pub invariant-loop-line : goal.invariant-loop-line
invariant-loop-line l = record {
  followed : HasFollowed l.text l.rest l.recording.steps l.recording.events;
  at_work : l.at_work ≡ is_some_event l.recording.events;
}

abbrev pub decreases-loop-line : goal.decreases-loop-line
decreases-loop-line l = length l.rest
