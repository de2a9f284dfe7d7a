use Rattle.std.proofs.Common.{◌≡◌, ◌+◌, ◌++◌, drop, map}
use Rattle.mx_outcomes.specs.Exploring.{plain}
use Rattle.mx_outcomes.specs.OutcomesTexts.{numbered}
use Rattle.mx_outcomes.proofs.lines.add_script.Given as goal

abbrev pub invariant-loop-place : goal.invariant-loop-place
invariant-loop-place l =
    map plain l.lines.items ++ numbered l.process (l.number + l.place) (drop l.place l.script)
    ≡ map plain l.initial.lines.items ++ numbered l.process l.number l.script
