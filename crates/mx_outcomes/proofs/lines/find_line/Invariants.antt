use Rattle.std.proofs.Common.{◌≡◌, drop, map}
use Rattle.mx_outcomes.specs.Exploring.{plain}
use Rattle.mx_outcomes.specs.OutcomesTexts.{place_from}
use Rattle.mx_outcomes.proofs.lines.find_line.Given as goal

abbrev pub invariant-loop-place : goal.invariant-loop-place
invariant-loop-place l =
    place_from l.process l.number l.place (map plain (drop l.place l.lines)) ≡ place_from l.process l.number 0 (map plain l.lines)
