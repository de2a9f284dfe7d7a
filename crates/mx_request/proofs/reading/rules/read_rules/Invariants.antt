use Rattle.std.proofs.Common.{◌≡◌, ◌-◌}
use Rattle.mx_request.specs.Reading.{rules_at, rules_after}
use Rattle.mx_request.proofs.reading.rules.read_rules.Given as goal

-- the rules of the text are those so far and those of the rest
abbrev pub invariant-loop-left : goal.invariant-loop-left
invariant-loop-left l = rules_at 16 l.text ≡ rules_after l.rules.items (rules_at (16 - l._left) l.rest)
