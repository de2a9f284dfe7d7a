use Rattle.std.proofs.Common.{◌≡◌, ◌-◌, ◌<◌, ap, sym, ◌∙◌, arith}
use Rattle.mx_request.specs.Reading.{rules_at, rules_after}
use Rattle.mx_request.proofs.RuleLaws.{rules_on, rules_end, no_rule_first, no_rules_left}
use Rattle.mx_request.proofs.reading.rules.read_rules.Goals as goal

pub returns-in_default : goal.returns-in_default
returns-in_default c =
    let low : c.loop-left._left < 16 = omega arith in
    sym (c.loop-left.invariant
    ∙ rules_end c.loop-left.rules.items c.push.new.self.items c.loop-left._left c.loop-left.rest.now c.in-Some-2.rule low
    (sym c.in_default.ensures.cut) (sym c.in_ok-rule.ensures ∙ c.in-Some-2.is) c.in_ok-push.ensures.items)

pub returns-in_default-3 : goal.returns-in_default-3
returns-in_default-3 c =
    let low : c.loop-left._left < 16 = omega arith in
    sym (c.loop-left.invariant
    ∙ no_rule_first c.loop-left.rules.items c.loop-left._left c.loop-left.rest.now (c.in-Some.field.now, c.in-Some.after.now) low
    (sym c.in-Some.ensures.cut) (sym c.in_ok-rule-2.ensures ∙ c.in_default-3.is))

pub loop-left-preserved : goal.loop-left-preserved
loop-left-preserved c =
    let low : c.loop-left._left < 16 = omega arith in
    c.loop-left.invariant
    ∙ rules_on c.loop-left.rules.items c.push-in-loop-left.new.self.items c.loop-left._left c.loop-left.rest.now
    (c.in-Some.field.now, c.in-Some.after.now) c.in-Some-3.rule low
    (sym c.in-Some.ensures.cut) (sym c.in_ok-rule-2.ensures ∙ c.in-Some-3.is) c.in_ok-push-2.ensures.items

pub returns : goal.returns
returns c =
    let done : 16 - c.loop-left._left ≡ 0 = omega arith in
    sym (c.loop-left.invariant
    ∙ ap (λ k. rules_after c.loop-left.rules.items (rules_at k c.loop-left.rest.now)) done
    ∙ no_rules_left c.loop-left.rules.items c.loop-left.rest.now)
