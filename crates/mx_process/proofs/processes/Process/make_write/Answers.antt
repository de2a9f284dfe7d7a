use Rattle.mx_process.proofs.LegLaws.{write_missed}
use Rattle.mx_process.proofs.processes.Process.make_write.Goals as goal

pub returns-in-Missing-clause-came : goal.returns-in-Missing-clause-came
returns-in-Missing-clause-came g c =
    write_missed g.B.Sitting.session c.in-Missing.segno c.in-Missing.by c.args.self.now c.reserve.new.self c.fill_fast.new.self
    c.reserve.ensures.still (c.fill_fast.ensures.missing c.in-Missing.segno c.in-Missing.by c.in-Missing.is) c.requires.due
    (c.fill_fast.ensures.due c.in-Missing.segno c.in-Missing.by c.in-Missing.is)
