use Rattle.mx_process.proofs.TurnLaws.{turned_ended}
use Rattle.mx_process.proofs.turns.turn_by.Goals as goal

pub returns-in-Ends-clause-turned : goal.returns-in-Ends-clause-turned
returns-in-Ends-clause-turned g c =
    turned_ended g.B.Sitting.session g.B.Sitting.setup c.args.line.now c.args.state.now c.end_line.new.state c.args.pass.now c.in-Ends.end
    c.requires.attempting c.in-Ends.ensures.is c.in-Ends.ensures.good.packable c.end_line.ensures.ended
