use Rattle.std.proofs.Common.{refl}
use Rattle.mx_process.proofs.TurnLaws.{taken_plainly}
use Rattle.mx_process.proofs.turns.take.Goals as goal

pub returns-in-Some-clause-taken : goal.returns-in-Some-clause-taken
returns-in-Some-clause-taken c =
    taken_plainly c.args.state.now c.end_plainly.new.self c.args.line.now c.args.element.now c.args.desc.now c.in-Some.ends
    c.in-Some.ensures (
      refl,
      record {
        first = c.end_plainly.ensures.first;
        control = c.end_plainly.ensures.done;
        steps = c.end_plainly.ensures.steps;
        idle = c.end_plainly.ensures.idle;
        progress = c.end_plainly.ensures.fresh;
      },
    )
