use Rattle.std.proofs.Common.{◌≤◌, ◌-◌, drop, length}
use Rattle.mx_outcomes.specs.Turning.{IsFalling}
use Rattle.mx_outcomes.proofs.orders.pivot_of.Given as goal

abbrev pub invariant-loop-place : goal.invariant-loop-place
invariant-loop-place l = record {
  within : l.place ≤ length l.order - 1;
  falling : IsFalling (drop l.place l.order);
}

abbrev pub decreases-loop-place : goal.decreases-loop-place
decreases-loop-place l = l.place
