use Rattle.std.proofs.Common.{refl}
use Rattle.mx_fresh.proofs.NumberLaws.{numbered_added}
use Rattle.mx_fresh.proofs.lists.BranchList.add.Goals as goal

pub invariant_of-self-2 : goal.invariant_of-self-2
invariant_of-self-2 c = rw c.in_ok-push.ensures.items (numbered_added 1 c.self.inside.list.items c.self.inside.next _ refl c.self.invariant)
