use Rattle.std.proofs.Common.{◌≤◌, ◌-◌, length}
use Rattle.mx_judging.specs.Replays.{IsSameJournal}
use Rattle.mx_judging.proofs.replays.Replay.go_to.Given as goal

-- the same journal, up to the point at most
abbrev pub invariant-loop-self : goal.invariant-loop-self
invariant-loop-self l = record {
  same : IsSameJournal l.initial.self l.self;
  most : l.self.at ≤ l.point;
}

-- the entries that are left
abbrev pub decreases-loop-self : goal.decreases-loop-self
decreases-loop-self l = length l.self.journal - l.self.at
