use Rattle.std.proofs.Common.{Option, not, ap, ◌∙◌}
use Rattle.std.proofs.lemmas.Result.{on_ok_weaker}
use Rattle.mx_acl.specs.Access.{without_entry}
use Rattle.mx_hier.specs.declared.branches.Branch.{Branch}
use Rattle.mx_hier.specs.Changing.{directory_changed, with_node}
use Rattle.mx_hier.specs.InitialLists.{initial_changed}
use Rattle.mx_hier.specs.Listed.{iacl_lacks, directory_in_slot}
use Rattle.mx_hier.proofs.KeptLaws.{result_kept, listed_changed, slot_listed}
use Rattle.mx_hier.proofs.tables.Tables.remove_iacl.Goals as goal

pub invariant_of-self : goal.invariant_of-self
invariant_of-self c =
    result_kept c.remove_iacl_at.result (directory_changed (initial_changed c.args.kind (λ initial. without_entry initial c.args.id.now)))
    c.self.inside.slots.items c.remove_iacl_at.new.slots.items c.self.inside.names.items c.args.uid
    c.self.invariant c.remove_iacl_at.ensures.ok c.remove_iacl_at.ensures.err

pub returns-clause-found : goal.returns-clause-found
returns-clause-found c =
    c.remove_iacl_at.ensures.found
    ∙ ap (λ (slot : Option Branch). not (iacl_lacks c.args.kind c.args.id.now (directory_in_slot slot)))
    (slot_listed c.self.inside.slots.items c.args.self.now c.args.uid c.self.invariant.keyed c.self.view_is)

pub returns-clause-ok : goal.returns-clause-ok
returns-clause-ok c =
    on_ok_weaker c.remove_iacl_at.result
    (λ e. listed_changed c.self.inside.slots.items c.remove_iacl_at.new.slots.items c.args.self.now c.args.uid
    (λ branch. with_node (directory_changed (initial_changed c.args.kind (λ initial. without_entry initial c.args.id.now)) branch.node) branch)
    c.self.invariant.keyed c.self.view_is e)
    c.remove_iacl_at.ensures.ok
