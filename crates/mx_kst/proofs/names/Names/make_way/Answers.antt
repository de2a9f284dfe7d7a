use Rattle.mx_name.specs.Names.{same_name}
use Rattle.mx_kst.proofs.StoredLaws.{holds_removed, holds_cleared}
use Rattle.mx_kst.proofs.names.Names.make_way.Goals as goal

pub returns-then-len-self-clause-holds : goal.returns-then-len-self-clause-holds
returns-then-len-self-clause-holds c =
    rw (c.shift_remove.ensures.entries, c.self.view_is)
    (holds_removed c.args.lots.now (same_name c.args.name.now) c.args.self.now c.requires.absent c.requires.given)

pub returns-else-len-self-clause-holds : goal.returns-else-len-self-clause-holds
returns-else-len-self-clause-holds c = rw c.clear.ensures (holds_cleared c.args.lots.now c.args.self.now c.requires.given)
