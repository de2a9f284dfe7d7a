use Rattle.std.proofs.Common.{arith}
use Rattle.mx_upcall.proofs.GateLaws.{without_top}
use Rattle.mx_upcall.proofs.gates.ReturnGates.pop.Goals as goal

pub returns-then-self-gt0-clause-after : goal.returns-then-self-gt0-clause-after
returns-then-self-gt0-clause-after c =
    without_top c.self.inside.most c.self.inside.gates c.self.inside.count c.args.self.now (omega arith) (omega arith) c.self.view_is
