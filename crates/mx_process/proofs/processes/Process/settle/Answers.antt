use Rattle.mx_process.proofs.SettleLaws.{settled_process}
use Rattle.mx_process.proofs.processes.Process.settle.Goals as goal

pub invariant_of-self-2 : goal.invariant_of-self-2
invariant_of-self-2 g c =
    settled_process g.B.Sitting.session g.B.Sitting.setup g.B.Attending.accounts c.self.inside.script.now c.self.inside.cam _
    c.in-Some.miss c.begin_anew.new.state c.settle_for.new.pass c.self.invariant c.in-Some.is c.in_ok-settle_for.ensures.settled
    c.begin_anew.ensures
