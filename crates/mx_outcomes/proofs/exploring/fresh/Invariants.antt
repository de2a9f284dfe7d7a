use Rattle.std.proofs.Common.{◌≡◌, ◌++◌, map}
use Rattle.mx_outcomes.specs.Exploring.{fresh}
use Rattle.mx_outcomes.proofs.exploring.fresh.Given as goal

abbrev pub invariant-loop-places : goal.invariant-loop-places
invariant-loop-places l = l.tallies.items ++ map fresh l.places-iterator.rest.items ≡ map fresh l.fn.groups.items
