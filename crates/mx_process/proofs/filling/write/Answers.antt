use Rattle.mx_process.proofs.FillingLaws.{write_left, writing_entered}
use Rattle.mx_process.proofs.filling.write.Goals as goal

pub make_write-went-requires-clause-writing : goal.make_write-went-requires-clause-writing
make_write-went-requires-clause-writing g c =
    writing_entered g.B.Sitting.session g.B.Sitting.setup c.args.state.now c.args.line.now c.enter.new.pass.view.cleared
    c.args.pass.now c.enter.new.pass c.enter.ensures.pass c.requires.writing

pub returns-clause-wrote : goal.returns-clause-wrote
returns-clause-wrote g c =
    write_left g.B.Sitting.session g.B.Sitting.setup c.args.line.now c.args.state.now c.make_write-went.new.state
    c.make_write-went.new.pass c.make_write-went.result c.leave.new.self c.leave.ensures c.make_write-went.ensures.wrote
