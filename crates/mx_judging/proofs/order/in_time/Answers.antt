use Rattle.mx_judging.specs.Stories.{times_of}
use Rattle.mx_judging.proofs.MomentLaws.{fewer_left, turn_taken}
use Rattle.mx_judging.proofs.order.in_time.Goals as goal

pub loop-process-smaller : goal.loop-process-smaller
loop-process-smaller c =
    fewer_left (times_of c.args.courses.now) c.loop-process.told.items c.deref.result.now c.loop-process.turns.items c.in-Some.process
    c.index-place.result.now c.loop-process.invariant c.deref.ensures.value c.in-Some.ensures c.index-place.ensures

pub loop-process-preserved : goal.loop-process-preserved
loop-process-preserved c =
    turn_taken (times_of c.args.courses.now) c.loop-process.told.items c.deref.result.now c.loop-process.turns.items
    c.push.new.self.items c.in-Some.process c.index-place.result.now c.requires c.loop-process.invariant c.deref.ensures.value
    c.in-Some.ensures c.index-place.ensures c.in_ok-push.ensures.items
