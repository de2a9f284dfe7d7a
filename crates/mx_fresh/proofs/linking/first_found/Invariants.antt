use Rattle.std.proofs.Common.{◌≡◌, drop}
use Rattle.mx_search.specs.Searching.{answers, first_found}
use Rattle.mx_state.specs.Linking.{rule_finds}
use Rattle.mx_fresh.proofs.linking.first_found.Given as goal

-- the rules that are left find first what all do
abbrev pub invariant-loop-rule : goal.invariant-loop-rule
invariant-loop-rule l =
    first_found (answers (rule_finds l.hierarchy l.process l.ring l.object) (drop l.rule-index l.rules) l.name)
    ≡ first_found (answers (rule_finds l.hierarchy l.process l.ring l.object) l.rules l.name)
