use Rattle.std.proofs.Common.{arith}
use Rattle.std.proofs.lemmas.List.Edits.{map_over_more}
use Rattle.mx_outcomes.specs.Tallies.{with_run}
use Rattle.mx_outcomes.proofs.exploring.add_run.Goals as goal

pub loop-tally-preserved : goal.loop-tally-preserved
loop-tally-preserved c =
    let more = map_over_more (with_run (c.args.order.now, c.args.outcomes.now)) c.args.tallies.now c.loop-tally.tallies c.loop-tally.tally-index
    c.tally-item.result (omega arith) c.loop-tally.invariant c.tally-item.is in
    let written = c.in_ok-add.ensures in
    let is = c.tally-item.is in
    cc
