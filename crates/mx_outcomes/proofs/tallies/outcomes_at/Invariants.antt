use Rattle.std.proofs.Common.{◌≡◌, take}
use Rattle.mx_outcomes.specs.Tallies.{outcomes_at}
use Rattle.mx_outcomes.proofs.tallies.outcomes_at.Given as goal

abbrev pub invariant-loop-place : goal.invariant-loop-place
invariant-loop-place l = l.texts.items ≡ outcomes_at (take l.place-index l.places) l.outcomes
