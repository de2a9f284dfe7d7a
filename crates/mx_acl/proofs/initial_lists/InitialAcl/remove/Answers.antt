use Rattle.std.proofs.Common.{◌≤◌, length, arith}
use Rattle.mx_acl.proofs.AclLaws.{no_more}
use Rattle.mx_acl.proofs.initial_lists.InitialAcl.remove.Goals as goal

pub invariant_of-self-2 : goal.invariant_of-self-2
invariant_of-self-2 c =
    let left : length c.remove.new.self.entries ≤ length c.self.inside.list.entries =
    no_more c.remove.result c.self.inside.list c.remove.new.self c.args.id.now c.remove.ensures.ok c.remove.ensures.err in
    omega (arith, left, c.self.invariant)
