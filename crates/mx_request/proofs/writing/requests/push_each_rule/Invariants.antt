use Rattle.std.proofs.Common.{◌≡◌, ◌++◌, drop, map}
use Rattle.mx_request.specs.Growth.{IsGrown, blank_before}
use Rattle.mx_request.specs.RequestTexts.{rule_text}
use Rattle.mx_request.proofs.writing.requests.push_each_rule.Given as goal

abbrev pub invariant-loop-rule : goal.invariant-loop-rule
invariant-loop-rule l = record {
  left : l.out.items ++ blank_before (map rule_text (drop l.rule-index l.rules)) ≡ l.initial.out.items ++ blank_before (map rule_text l.rules);
  grown : IsGrown l.initial.out.items l.out.items;
}
