use Rattle.std.proofs.Common.{◌≡◌, ◌++◌, replicate}
use Rattle.mx_outcomes.proofs.orders.add_lines.Given as goal

abbrev pub invariant-loop : goal.invariant-loop
invariant-loop l = l.order.items ≡ l.initial.order.items ++ replicate l.counter l.process
