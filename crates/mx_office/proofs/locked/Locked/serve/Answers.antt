use Rattle.std.proofs.Common.{subst}
use Rattle.mx_office.specs.Holding.{LockedValue}
use Rattle.mx_office.specs.Serving.{IsServed}
use Rattle.mx_office.proofs.locked.Locked.serve.Goals as goal

pub returns-clause-served : goal.returns-clause-served
returns-clause-served g c served same =
    subst (λ (z : LockedValue). IsServed z.supervised c.args.pass.now.view.process c.args.ring c.args.request.now served
    c.serve.new.supervisor) c.self.view_is (c.serve.ensures.served served same)
