use Rattle.mx_outcomes.specs.Exploring.{HasCome}
use Rattle.mx_outcomes.proofs.exploring.make_all.Given as goal

abbrev pub invariant-loop : goal.invariant-loop
invariant-loop g l = HasCome l.session l.fn.groups.items l.order.items l.tallies.items
