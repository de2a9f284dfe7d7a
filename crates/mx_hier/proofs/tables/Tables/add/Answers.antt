use Rattle.std.proofs.Common.{◌+◌, refl, arith}
use Rattle.mx_hier.proofs.KeptLaws.{listed_added}
use Rattle.mx_hier.proofs.tables.Tables.add.Goals as goal

pub returns-clause-ok : goal.returns-clause-ok
returns-clause-ok c =
    listed_added c.self.inside.slots.items c.add_branch.new.slots.items c.args.self.now (c.len.result + 1) c.args.dir c.args.name.now c.args.name.now c.args.node
    c.self.view_is (omega (arith, c.len.ensures)) refl c.in_ok-add_branch.ensures.ok
