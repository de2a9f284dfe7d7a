use Rattle.std.proofs.Common.{◌≡◌, ◌==◌, Some, None, Option, position, not, refl, sym, ap, ◌∙◌}
use Rattle.std.proofs.lemmas.Result.{on_ok_weaker}
use Rattle.mx_hier.specs.declared.branches.Branch.{Branch}
use Rattle.mx_fresh.proofs.NumberLaws.{kept_numbered, set_listed, unlisted, of_branch, of_none}
use Rattle.std.proofs.Common.{is_ok, true}
use Rattle.mx_acl.specs.Access.{without_entry}
use Rattle.mx_hier.specs.Changing.{branch_with_directory}
use Rattle.mx_hier.specs.InitialLists.{initial_changed}
use Rattle.mx_hier.specs.Listed.{iacl_lacks, directory_in_slot}
use Rattle.mx_fresh.proofs.lists.BranchList.remove_iacl.Goals as goal
use Rattle.mx_fresh.proofs.lists.BranchList.remove_iacl.Goals.{After-take_iacl_entry, In-None}

at : (c : After-take_iacl_entry) → position (λ (branch : Branch). branch.uid == c.args.uid) c.self.inside.list.items ≡ Some c.in-Some.place
at c = ap (position (λ (branch : Branch). branch.uid == c.args.uid)) (sym c.as_slice.ensures.value) ∙ sym c.place_of.ensures ∙ c.in-Some.is

none : (c : In-None) → position (λ (branch : Branch). branch.uid == c.args.uid) c.self.inside.list.items ≡ None
none c = ap (position (λ (branch : Branch). branch.uid == c.args.uid)) (sym c.as_slice.ensures.value) ∙ sym c.place_of.ensures ∙ c.in-None.is

pub invariant_of-self : goal.invariant_of-self
invariant_of-self c =
    kept_numbered (branch_with_directory (initial_changed c.args.kind (λ initial. without_entry initial c.args.id.now))) (λ branch. refl) c.self.inside.list.items c.self.inside.next c.args.uid c.args.self.now c.self.view_is
    c.self.invariant c.in-Some.place (at c) c.take_iacl_entry.new.branches.items c.take_iacl_entry.result c.take_iacl_entry.ensures.ok c.take_iacl_entry.ensures.err

pub returns-in-Some-clause-found : goal.returns-in-Some-clause-found
returns-in-Some-clause-found c =
    of_branch c.self.inside.list.items c.self.inside.next c.args.uid c.args.self.now c.self.view_is
    (λ (found : Option Branch). is_ok (c.take_iacl_entry.result) ≡ not (iacl_lacks c.args.kind c.args.id.now (directory_in_slot found))) c.in-Some.place (at c) c.self.invariant c.take_iacl_entry.ensures.found

pub returns-in-Some-clause-ok : goal.returns-in-Some-clause-ok
returns-in-Some-clause-ok c =
    on_ok_weaker c.take_iacl_entry.result
    (set_listed (branch_with_directory (initial_changed c.args.kind (λ initial. without_entry initial c.args.id.now))) (λ branch. refl) c.self.inside.list.items c.self.inside.next c.args.uid c.args.self.now c.self.view_is
    c.self.invariant c.in-Some.place (at c) c.take_iacl_entry.new.branches.items) c.take_iacl_entry.ensures.ok

pub returns-in-None-clause-found : goal.returns-in-None-clause-found
returns-in-None-clause-found c =
    of_none c.self.inside.list.items c.self.inside.next c.args.uid c.args.self.now c.self.view_is
    (λ (found : Option Branch). true ≡ not (iacl_lacks c.args.kind c.args.id.now (directory_in_slot found))) (none c) refl

pub returns-in-None-clause-ok : goal.returns-in-None-clause-ok
returns-in-None-clause-ok c =
    unlisted (branch_with_directory (initial_changed c.args.kind (λ initial. without_entry initial c.args.id.now))) (λ branch. refl) c.self.inside.list.items c.self.inside.next c.args.uid c.args.self.now c.self.view_is (none c)
