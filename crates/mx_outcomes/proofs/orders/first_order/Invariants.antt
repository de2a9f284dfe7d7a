use Rattle.std.proofs.Common.{take}
use Rattle.mx_outcomes.specs.Interleavings.{IsInterleaving}
use Rattle.mx_outcomes.specs.Turning.{AreUpTo, IsRising}
use Rattle.mx_outcomes.proofs.orders.first_order.Given as goal

abbrev pub invariant-loop-place : goal.invariant-loop-place
invariant-loop-place l = record {
  interleaving : IsInterleaving (take l.place l.counts) l.order.items;
  rising : IsRising l.order.items;
  up : AreUpTo l.place l.order.items;
}
