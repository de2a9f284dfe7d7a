use Rattle.std.proofs.Common.{rules, ◌<◌, length}
use Rattle.mx_sup.proofs.PartLaws.{next_recorded}
use Rattle.mx_sup.proofs.setups.setup_part.Goals as goal

pub loop-i-preserved : goal.loop-i-preserved
loop-i-preserved c =
    let within : c.loop-i.i < length c.args.session.now.setup = search rules in
    record {
      whole = next_recorded _ _ _ _ _ _ _ _ _ _ c.loop-i.invariant.whole c.in_ok-reserve.ensures.same.steps c.in_ok-reserve.ensures.same.events
          c.loop-i.invariant.events c.entry_in.ensures within c.end_line.ensures.steps;
      events = c.end_line.ensures.events;
    }
