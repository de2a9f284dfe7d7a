use Rattle.mx_hier.specs.Changing.{with_node, segment_changed}
use Rattle.mx_hier.specs.SetBrackets.{bracketed}
use Rattle.mx_hier.proofs.KeptLaws.{node_kept, listed_changed}
use Rattle.mx_hier.proofs.tables.Tables.set_brackets.Goals as goal

pub invariant_of-self : goal.invariant_of-self
invariant_of-self c =
    node_kept (segment_changed (bracketed c.args.brackets)) c.self.inside.slots.items c.set_brackets_at.new.slots.items c.self.inside.names.items c.args.uid c.self.invariant c.set_brackets_at.ensures

pub returns : goal.returns
returns c =
    listed_changed c.self.inside.slots.items c.set_brackets_at.new.slots.items c.args.self.now c.args.uid (λ branch. with_node (segment_changed (bracketed c.args.brackets) branch.node) branch)
    c.self.invariant.keyed c.self.view_is c.set_brackets_at.ensures
