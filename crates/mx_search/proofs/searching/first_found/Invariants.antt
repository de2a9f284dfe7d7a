use Rattle.std.proofs.Common.{◌≡◌, drop}
use Rattle.mx_search.specs.Searching.{answers, first_found}
use Rattle.mx_search.proofs.searching.first_found.Given as goal

-- the rules that are left find first what all do
abbrev pub invariant-loop-rule : goal.invariant-loop-rule
invariant-loop-rule g l =
    first_found (answers (g.F.Finder.answer l.finder) (drop l.rule-index l.rules) l.name) ≡ first_found (answers (g.F.Finder.answer l.finder) l.rules l.name)
