use Rattle.std.proofs.Common.{Option, subst}
use Rattle.std.proofs.lemmas.Result.{on_ok_weaker}
use Rattle.mx_acl.specs.Access.{with_entry}
use Rattle.mx_hier.specs.declared.branches.Branch.{Branch}
use Rattle.mx_hier.specs.Changing.{directory_changed, with_node}
use Rattle.mx_hier.specs.InitialLists.{initial_changed}
use Rattle.mx_hier.specs.Listed.{AclAnswers, iacl_fault, directory_in_slot}
use Rattle.mx_hier.proofs.KeptLaws.{result_kept, listed_changed, slot_listed}
use Rattle.mx_hier.proofs.tables.Tables.set_iacl.Goals as goal

pub invariant_of-self : goal.invariant_of-self
invariant_of-self c =
    result_kept c.set_iacl_at.result (directory_changed (initial_changed c.args.kind (λ initial. with_entry initial c.args.id.now c.args.modes)))
    c.self.inside.slots.items c.set_iacl_at.new.slots.items c.self.inside.names.items c.args.uid
    c.self.invariant c.set_iacl_at.ensures.ok c.set_iacl_at.ensures.err

pub returns-clause-answer : goal.returns-clause-answer
returns-clause-answer c =
    subst (λ (slot : Option Branch). AclAnswers (iacl_fault c.args.kind c.args.id.now c.args.modes (directory_in_slot slot)) c.set_iacl_at.result)
    (slot_listed c.self.inside.slots.items c.args.self.now c.args.uid c.self.invariant.keyed c.self.view_is) c.set_iacl_at.ensures.answer

pub returns-clause-ok : goal.returns-clause-ok
returns-clause-ok c =
    on_ok_weaker c.set_iacl_at.result
    (λ e. listed_changed c.self.inside.slots.items c.set_iacl_at.new.slots.items c.args.self.now c.args.uid
    (λ branch. with_node (directory_changed (initial_changed c.args.kind (λ initial. with_entry initial c.args.id.now c.args.modes)) branch.node) branch)
    c.self.invariant.keyed c.self.view_is e)
    c.set_iacl_at.ensures.ok
