use Rattle.std.proofs.Common.{◌≡◌, ◌++◌, take, drop, map}
use Rattle.mx_outcomes.specs.Tallies.{with_run}
use Rattle.mx_outcomes.proofs.exploring.add_run.Given as goal

abbrev pub invariant-loop-tally : goal.invariant-loop-tally
invariant-loop-tally l =
    l.tallies ≡ map (with_run (l.order, l.outcomes)) (take l.tally-index l.initial.tallies) ++ drop l.tally-index l.initial.tallies
