use Rattle.std.proofs.Common.{◌≡◌, ◌<◌, ◌+◌, ◌*◌, ◌^◌}
use Rattle.mx_outcomes.specs.Counts.{choose}
use Rattle.mx_outcomes.proofs.orders.times_ways.Given as goal

abbrev pub invariant-loop-chosen : goal.invariant-loop-chosen
invariant-loop-chosen l = record {
  is : l.all ≡ l.ways * choose (l.before + l.chosen) l.chosen;
  fits : l.all < 2 ^ 64;
}
