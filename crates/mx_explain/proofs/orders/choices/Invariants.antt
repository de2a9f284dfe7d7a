use Rattle.std.proofs.Common.{◌≡◌, ◌≤◌, ◌-◌, ◌++◌}
use Rattle.mx_explain.specs.Orders.{choices}
use Rattle.mx_explain.proofs.orders.choices.Given as goal

abbrev pub invariant-loop : goal.invariant-loop
invariant-loop l = record {
  made : l.order.items ++ choices l.processes l.state (l.count - l.counter) ≡ choices l.processes l.first l.count;
  within : l.counter ≤ l.count;
}
