use Rattle.std.proofs.Common.{◌≡◌, ◌==◌, Some, None, Ok, Option, position, refl, sym, ap, ◌∙◌}
use Rattle.std.specs.Option.{option_and_then}
use Rattle.std.proofs.lemmas.Result.{on_ok_weaker}
use Rattle.mx_hier.specs.declared.branches.Branch.{Branch}
use Rattle.mx_fresh.proofs.NumberLaws.{kept_numbered, set_listed, unlisted, of_branch, of_none}
use Rattle.mx_acl.specs.Access.{Access, with_entry, set_fault}
use Rattle.mx_hier.specs.Changing.{branch_with_acl}
use Rattle.mx_hier.specs.Listed.{AclAnswers, acl_in_slot}
use Rattle.mx_fresh.proofs.lists.BranchList.set_acl.Goals as goal
use Rattle.mx_fresh.proofs.lists.BranchList.set_acl.Goals.{After-put_acl_entry, In-None}

at : (c : After-put_acl_entry) → position (λ (branch : Branch). branch.uid == c.args.uid) c.self.inside.list.items ≡ Some c.in-Some.place
at c = ap (position (λ (branch : Branch). branch.uid == c.args.uid)) (sym c.as_slice.ensures.value) ∙ sym c.place_of.ensures ∙ c.in-Some.is

none : (c : In-None) → position (λ (branch : Branch). branch.uid == c.args.uid) c.self.inside.list.items ≡ None
none c = ap (position (λ (branch : Branch). branch.uid == c.args.uid)) (sym c.as_slice.ensures.value) ∙ sym c.place_of.ensures ∙ c.in-None.is

pub invariant_of-self : goal.invariant_of-self
invariant_of-self c =
    kept_numbered (branch_with_acl (λ acl. with_entry acl c.args.id.now c.args.modes)) (λ branch. refl) c.self.inside.list.items c.self.inside.next c.args.uid c.args.self.now c.self.view_is
    c.self.invariant c.in-Some.place (at c) c.put_acl_entry.new.branches.items c.put_acl_entry.result c.put_acl_entry.ensures.ok c.put_acl_entry.ensures.err

pub returns-in-Some-clause-answer : goal.returns-in-Some-clause-answer
returns-in-Some-clause-answer c =
    of_branch c.self.inside.list.items c.self.inside.next c.args.uid c.args.self.now c.self.view_is
    (λ (found : Option Branch). AclAnswers (option_and_then (λ (acl : Access). set_fault acl c.args.id.now c.args.modes) (acl_in_slot found)) c.put_acl_entry.result) c.in-Some.place (at c) c.self.invariant c.put_acl_entry.ensures.answer

pub returns-in-Some-clause-ok : goal.returns-in-Some-clause-ok
returns-in-Some-clause-ok c =
    on_ok_weaker c.put_acl_entry.result
    (set_listed (branch_with_acl (λ acl. with_entry acl c.args.id.now c.args.modes)) (λ branch. refl) c.self.inside.list.items c.self.inside.next c.args.uid c.args.self.now c.self.view_is
    c.self.invariant c.in-Some.place (at c) c.put_acl_entry.new.branches.items) c.put_acl_entry.ensures.ok

pub returns-in-None-clause-answer : goal.returns-in-None-clause-answer
returns-in-None-clause-answer c =
    of_none c.self.inside.list.items c.self.inside.next c.args.uid c.args.self.now c.self.view_is
    (λ (found : Option Branch). AclAnswers (option_and_then (λ (acl : Access). set_fault acl c.args.id.now c.args.modes) (acl_in_slot found)) (Ok tt)) (none c) refl

pub returns-in-None-clause-ok : goal.returns-in-None-clause-ok
returns-in-None-clause-ok c =
    unlisted (branch_with_acl (λ acl. with_entry acl c.args.id.now c.args.modes)) (λ branch. refl) c.self.inside.list.items c.self.inside.next c.args.uid c.args.self.now c.self.view_is (none c)
