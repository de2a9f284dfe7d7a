use Rattle.mx_line.proofs.ProcessLaws.{moves_in}
use Rattle.mx_line.proofs.processes.Process.plain_move.Goals as goal

pub returns-in-Before : goal.returns-in-Before
returns-in-Before c =
    moves_in c.args.self.now c.args.line.now c.args.element.now c.args.desc.now c.first_move.result c.in-Before.is c.first_move.ensures
