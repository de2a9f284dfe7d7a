use Rattle.std.proofs.Common.{◌≡◌, ◌++◌, drop, map}
use Rattle.mx_outcomes.specs.Exploring.{plain}
use Rattle.mx_outcomes.specs.OutcomesTexts.{lines_text}
use Rattle.mx_outcomes.proofs.texts.add_lines.Given as goal

abbrev pub invariant-loop-place : goal.invariant-loop-place
invariant-loop-place l =
    l.out.items ++ lines_text l.tallies l.place (map plain (drop l.place l.lines))
    ≡ l.initial.out.items ++ lines_text l.tallies 0 (map plain l.lines)
