use Rattle.std.proofs.Common.{take}
use Rattle.mx_outcomes.specs.Places.{IsNew}
use Rattle.mx_outcomes.proofs.tallies.place_of.Given as goal

abbrev pub invariant-loop-place : goal.invariant-loop-place
invariant-loop-place l = IsNew l.outcomes (take l.place l.rows)
