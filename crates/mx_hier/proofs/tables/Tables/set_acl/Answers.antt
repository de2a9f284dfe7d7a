use Rattle.std.proofs.Common.{Option, subst}
use Rattle.std.specs.Option.{option_and_then}
use Rattle.std.proofs.lemmas.Result.{on_ok_weaker}
use Rattle.mx_acl.specs.Access.{Access, with_entry, set_fault}
use Rattle.mx_hier.specs.declared.branches.Branch.{Branch}
use Rattle.mx_hier.specs.Changing.{acl_changed, with_node}
use Rattle.mx_hier.specs.Listed.{AclAnswers, acl_in_slot}
use Rattle.mx_hier.proofs.KeptLaws.{result_kept, listed_changed, slot_listed}
use Rattle.mx_hier.proofs.tables.Tables.set_acl.Goals as goal

pub invariant_of-self : goal.invariant_of-self
invariant_of-self c =
    result_kept c.set_acl_at.result (acl_changed (λ acl. with_entry acl c.args.id.now c.args.modes)) c.self.inside.slots.items c.set_acl_at.new.slots.items c.self.inside.names.items c.args.uid
    c.self.invariant c.set_acl_at.ensures.ok c.set_acl_at.ensures.err

pub returns-clause-answer : goal.returns-clause-answer
returns-clause-answer c =
    subst (λ (slot : Option Branch). AclAnswers (option_and_then (λ (acl : Access). set_fault acl c.args.id.now c.args.modes) (acl_in_slot slot)) c.set_acl_at.result)
    (slot_listed c.self.inside.slots.items c.args.self.now c.args.uid c.self.invariant.keyed c.self.view_is) c.set_acl_at.ensures.answer

pub returns-clause-ok : goal.returns-clause-ok
returns-clause-ok c =
    on_ok_weaker c.set_acl_at.result
    (λ e. listed_changed c.self.inside.slots.items c.set_acl_at.new.slots.items c.args.self.now c.args.uid (λ branch. with_node (acl_changed (λ acl. with_entry acl c.args.id.now c.args.modes) branch.node) branch) c.self.invariant.keyed c.self.view_is e)
    c.set_acl_at.ensures.ok
