use Rattle.std.proofs.Common.{◌≡◌, ◌++◌, take}
use Rattle.mx_outcomes.specs.RowTexts.{order_text}
use Rattle.mx_outcomes.proofs.rows.add_order.Given as goal

abbrev pub invariant-loop-process : goal.invariant-loop-process
invariant-loop-process l = l.out.items ≡ l.initial.out.items ++ order_text (take l.process-index l.order)
