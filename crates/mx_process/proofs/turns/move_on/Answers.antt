use Rattle.mx_process.proofs.TurnLaws.{taken_moved}
use Rattle.mx_process.proofs.turns.move_on.Goals as goal

pub returns-in-Some-clause-taken : goal.returns-in-Some-clause-taken
returns-in-Some-clause-taken c =
    taken_moved c.args.state.now c.end_moved.new.self c.args.line.now c.args.element.now c.args.desc.now c.in-Some.going c.in-Some.ensures
    c.end_moved.ensures.first c.end_moved.ensures.done c.end_moved.ensures.steps c.end_moved.ensures.idle c.end_moved.ensures.fresh
