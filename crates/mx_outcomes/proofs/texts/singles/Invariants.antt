use Rattle.std.proofs.Common.{◌≡◌, ◌++◌, drop, map}
use Rattle.mx_outcomes.specs.Exploring.{plain}
use Rattle.mx_outcomes.specs.OutcomesTexts.{singles}
use Rattle.mx_outcomes.proofs.texts.singles.Given as goal

abbrev pub invariant-loop-place : goal.invariant-loop-place
invariant-loop-place l = l.groups.items ++ singles l.place (map plain (drop l.place l.lines)) ≡ singles 0 (map plain l.lines)
