use Rattle.mx_office.proofs.Wakings.{resumed_given, running_then}
use Rattle.mx_office.proofs.locked.Locked.resume.Goals as goal

pub returns-clause-given : goal.returns-clause-given
returns-clause-given g c served same e =
    resumed_given g.B.Sitting.session c.args.self.now c.args.pass.now.view.process c.args.ring served
    c.serve.new.self.supervised (rw c.requires.request at c.serve.ensures.served served same) c.requires.awake
    (running_then c.args.self.now.stopped c.serve.result served same c.serve.ensures.over)
    (c.serve.ensures.below served same) e
