use Rattle.std.proofs.Common.{◌≡◌, ◌<◌, ◌+◌, ◌*◌, ◌^◌, drop}
use Rattle.std.specs.List.{sum}
use Rattle.mx_outcomes.specs.Counts.{orders_among, orders_of}
use Rattle.mx_outcomes.proofs.orders.count_orders.Given as goal

abbrev pub invariant-loop-count : goal.invariant-loop-count
invariant-loop-count l = record {
  before : l.before + sum (drop l.count-index l.counts) ≡ sum l.counts;
  ways : l.ways * orders_among l.before (drop l.count-index l.counts) ≡ orders_of l.counts;
  fits : l.ways < 2 ^ 64;
}
