use Rattle.std.proofs.Common.{arith, subst}
use Rattle.mx_process.proofs.TurnLaws.{some_steps, turned_more}
use Rattle.mx_process.specs.Processes.{known_of}
use Rattle.mx_process.specs.Turns.{inside}
use Rattle.mx_process.proofs.turns.make_turns.Goals as goal

pub make_turn-requires-clause-spare : goal.make_turn-requires-clause-spare
make_turn-requires-clause-spare g c =
    let some = some_steps g.B.Sitting.session g.B.Sitting.setup c.args.state.now c.args.line.now (known_of c.args.pass.now)
    c.requires.attempting in
    omega (arith, some, c.requires.spare)

pub make_turn-requires-clause-room : goal.make_turn-requires-clause-room
make_turn-requires-clause-room g c =
    let some = some_steps g.B.Sitting.session g.B.Sitting.setup c.args.state.now c.args.line.now (known_of c.args.pass.now)
    c.requires.attempting in
    omega (arith, some, c.requires.room)

pub returns-in-None-clause-spare : goal.returns-in-None-clause-spare
returns-in-None-clause-spare g c = λ is.
    let goes = turned_more g.B.Sitting.session g.B.Sitting.setup c.args.line.now c.args.state.now
    (inside c.make_turn.new.state c.make_turn.new.pass) c.make_turn.result is c.make_turn.ensures.turned in
    let nearer = goes.nearer in
    omega (arith, nearer, c.requires.spare, c.make_turn.ensures.spare)

pub returns-in-None-clause-room : goal.returns-in-None-clause-room
returns-in-None-clause-room g c = λ is.
    let goes = turned_more g.B.Sitting.session g.B.Sitting.setup c.args.line.now c.args.state.now
    (inside c.make_turn.new.state c.make_turn.new.pass) c.make_turn.result is c.make_turn.ensures.turned in
    let nearer = goes.nearer in
    omega (arith, nearer, c.requires.room, c.make_turn.ensures.room)
