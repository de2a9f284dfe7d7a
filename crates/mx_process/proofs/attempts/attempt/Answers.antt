use Rattle.std.proofs.Common.{ap, arith}
use Rattle.mx_desc.specs.Passes.{PassValue}
use Rattle.mx_process.proofs.TurnLaws.{few_steps}
use Rattle.mx_process.specs.Processes.{known_of}
use Rattle.mx_state.specs.declared.journal.Entry as journaled
use Rattle.mx_process.proofs.AttemptLaws.{attempt_left, attempting_entered}
use Rattle.mx_process.proofs.attempts.attempt.Goals as goal

pub turns-came-requires-clause-attempting : goal.turns-came-requires-clause-attempting
turns-came-requires-clause-attempting g c =
    attempting_entered g.B.Sitting.session g.B.Sitting.setup c.args.state.now c.args.line.now c.enter.new.pass.view.cleared
    c.args.pass.now c.enter.new.pass c.enter.ensures.pass c.requires.attempting

pub turns-came-requires-clause-spare : goal.turns-came-requires-clause-spare
turns-came-requires-clause-spare g c =
    let few = few_steps g.B.Sitting.session g.B.Sitting.setup c.args.state.now c.args.line.now (known_of c.args.pass.now)
    c.requires.attempting in
    let same = ap (λ (p : PassValue journaled.Entry). p.spare) c.enter.ensures.pass in
    omega (arith, few, same, c.requires.spare)

pub turns-came-requires-clause-room : goal.turns-came-requires-clause-room
turns-came-requires-clause-room g c =
    let few = few_steps g.B.Sitting.session g.B.Sitting.setup c.args.state.now c.args.line.now (known_of c.args.pass.now)
    c.requires.attempting in
    omega (arith, few, c.requires.room)

pub returns-clause-came : goal.returns-clause-came
returns-clause-came g c =
    attempt_left g.B.Sitting.session g.B.Sitting.setup c.args.line.now c.args.state.now c.turns-came.new.state c.turns-came.new.pass
    c.turns-came.result c.leave.new.self c.leave.ensures c.turns-came.ensures.came
