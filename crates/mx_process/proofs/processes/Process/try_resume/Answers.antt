use Rattle.mx_process.proofs.CallLaws.{line_still}
use Rattle.mx_process.proofs.processes.Process.try_resume.Goals as goal

pub resume-requires-clause-left : goal.resume-requires-clause-left
resume-requires-clause-left g c =
    line_still g.B.Sitting.session c.args.self.now c.reserve.new.self c.reserve.ensures.still c.requires.left
