use Rattle.mx_outcomes.proofs.ExploredLaws.{none_yet, goes_on, is_done}
use Rattle.mx_outcomes.proofs.exploring.make_all.Goals as goal

pub loop-init : goal.loop-init
loop-init g c = none_yet c.args.session.now c.args.groups.items c.args.first.items c.in_ok-tallies.tallies.items c.requires.first
    c.requires.interleaving c.in_ok-tallies.ensures

pub loop-preserved : goal.loop-preserved
loop-preserved g c = goes_on c.args.session.now c.args.groups.items c.loop.order.items c.deref.result.now c.deref_mut.result.now
    c.loop.tallies.items c.make.new.tallies.items c.deref.ensures.value c.deref_mut.ensures.value c.loop.invariant c.in_ok-make.ensures
    c.advance.new.order c.loop.order.len (c.advance.ensures.next c.if-not-advance.false) c.deref_mut.ensures.len c.advance.auto.order

pub returns-then-not-advance : goal.returns-then-not-advance
returns-then-not-advance g c = is_done c.args.session.now c.args.groups.items c.loop.order.items c.deref.result.now c.deref_mut.result.now
    c.loop.tallies.items c.make.new.tallies.items c.deref.ensures.value c.deref_mut.ensures.value c.loop.invariant c.in_ok-make.ensures
    (c.advance.ensures.last c.if-not-advance.true)
