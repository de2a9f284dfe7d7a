use Rattle.mx_outcomes.proofs.PlaceLaws.{counted_once, counted_first}
use Rattle.mx_outcomes.proofs.tallies.count.Goals as goal

pub returns-in-Some : goal.returns-in-Some
returns-in-Some c = counted_once c.count_again.result c.args.order.now c.args.outcomes c.args.rows.now.items c.deref.result.now c.in-Some.place
    c.index_mut.result.now c.count_again.new.row c.deref.ensures.value c.in-Some.ensures c.index_mut.ensures.value c.count_again.ensures

pub returns-in_ok-push-in-None : goal.returns-in_ok-push-in-None
returns-in_ok-push-in-None c = counted_first c.args.order.now c.in_ok-first-in-None.first c.args.outcomes c.args.rows.now.items
    c.deref.result.now c.push.new.self.items c.deref.ensures.value c.in-None.ensures c.in_ok-first-in-None.ensures
    c.in_ok-push-in-None.ensures.items
