use Rattle.mx_outcomes.proofs.OrderLaws.{falling_last}
use Rattle.mx_outcomes.proofs.TurnLaws.{goes_on, has_one}
use Rattle.mx_outcomes.proofs.orders.advance.Goals as goal

pub returns-in_default-clause-last : goal.returns-in_default-clause-last
returns-in_default-clause-last c = λ _ other. falling_last c.args.order.now other c.in_default.ensures

pub returns-in-Some-successor_of-clause-next : goal.returns-in-Some-successor_of-clause-next
returns-in-Some-successor_of-clause-next c = λ _. goes_on c.args.order.now c.in-Some.pivot c.in-Some.ensures c.reverse.new.self
    c.reverse.ensures.after c.in-Some-successor_of.successor c.swap.new.self c.in-Some-successor_of.ensures c.swap.ensures.after

pub returns-in_default-successor_of-clause-next : goal.returns-in_default-successor_of-clause-next
returns-in_default-successor_of-clause-next c = λ _. absurd (has_one c.args.order.now c.in-Some.pivot c.in-Some.ensures c.reverse.new.self
    c.reverse.ensures.after c.in_default-successor_of.ensures)
