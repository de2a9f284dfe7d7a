use Rattle.std.proofs.Common.{◌≡◌, length, rules}
use Rattle.mx_outcomes.proofs.ExploredLaws.{fresh_all, fresh_more}
use Rattle.mx_outcomes.proofs.exploring.fresh.Goals as goal

pub loop-places-preserved : goal.loop-places-preserved
loop-places-preserved c = fresh_more c.loop-places.tallies.items c.push.new.self.items _ c.loop-places.places-iterator.rest.items
    c.next.new.self.rest.items c.in-Some.places c.new.result c.loop-places.invariant c.in-Some.ensures.steps.0 c.new.ensures
    c.in_ok-push.ensures.items

pub returns : goal.returns
returns c =
    let none : length c.loop-places.places-iterator.rest.items ≡ 0 = search rules in
    fresh_all c.loop-places.tallies.items _ c.loop-places.places-iterator.rest.items c.loop-places.invariant none
