use Rattle.mx_process.proofs.TurnLaws.{refers_so}
use Rattle.mx_process.specs.Processes.{known_of}
use Rattle.mx_process.proofs.turns.make_turn.Goals as goal

pub refer-requires-clause-asks : goal.refer-requires-clause-asks
refer-requires-clause-asks g c =
    refers_so g.B.Sitting.session g.B.Sitting.setup c.args.state.now c.args.line.now (known_of c.args.pass.now) c.in-Some.asked
    c.requires.attempting c.in-Some.ensures
