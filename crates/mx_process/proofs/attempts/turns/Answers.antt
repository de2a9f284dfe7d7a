use Rattle.std.proofs.Common.{refl, sym, ◌∙◌, subst, IsTrue}
use Rattle.mx_process.proofs.TurnLaws.{goes_then}
use Rattle.mx_process.specs.Turns.{inside}
use Rattle.mx_process.specs.declared.misses.Fast.TheVariants as fast
use Rattle.mx_process.proofs.attempts.turns.Goals as goal

pub loop-miss-preserved : goal.loop-miss-preserved
loop-miss-preserved g c = record {
  same = c.in-More.ensures.same;
  ready = c.in-More.ensures.ready;
  spare = c.in-More.ensures.spare refl;
  room = c.in-More.ensures.room refl;
  end = subst IsTrue (sym c.in-More.ensures.turned.same.room) c.loop-miss.invariant.end;
  attempting = c.in-More.ensures.turned.attempting;
  whole = λ came after e. c.loop-miss.invariant.whole came after
      (goes_then g.B.Sitting.session g.B.Sitting.setup c.args.line.now c.loop-miss.state
      (inside c.make_turns.new.state c.make_turns.new.pass) after came c.in-More.ensures.turned e);
  untold = record {
    process = c.in-More.ensures.untold.process ∙ c.loop-miss.invariant.untold.process;
    history = c.in-More.ensures.untold.history ∙ c.loop-miss.invariant.untold.history;
    told = λ n. c.in-More.ensures.untold.told n ∙ c.loop-miss.invariant.untold.told n;
    amount = c.in-More.ensures.untold.amount ∙ c.loop-miss.invariant.untold.amount;
  };
}

pub returns-in-Ended-clause-came : goal.returns-in-Ended-clause-came
returns-in-Ended-clause-came g c =
    c.loop-miss.invariant.whole fast.Done (inside c.make_turns.new.state c.make_turns.new.pass) c.in-Ended.ensures.turned

pub returns-in-Missing-clause-came : goal.returns-in-Missing-clause-came
returns-in-Missing-clause-came g c =
    c.loop-miss.invariant.whole (fast.Missing c.in-Missing.miss.segno c.in-Missing.miss.by)
    (inside c.make_turns.new.state c.make_turns.new.pass) c.in-Missing.ensures.turned

pub returns-in-AtLink-clause-came : goal.returns-in-AtLink-clause-came
returns-in-AtLink-clause-came g c =
    c.loop-miss.invariant.whole (fast.Link c.in-AtLink.place.segno c.in-AtLink.place.word c.in-AtLink.place.ring)
    (inside c.make_turns.new.state c.make_turns.new.pass) c.in-AtLink.ensures.turned
