use Rattle.std.proofs.Common.{◌≡◌, ◌==◌, Some, position, refl, sym, ap, ◌∙◌}
use Rattle.mx_hier.specs.declared.branches.Branch.{Branch}
use Rattle.mx_hier.specs.Changing.{branch_with_directory}
use Rattle.mx_hier.specs.SetDirectoryBrackets.{dir_bracketed}
use Rattle.mx_fresh.proofs.NumberLaws.{set_numbered, set_listed, unlisted}
use Rattle.mx_fresh.proofs.lists.BranchList.set_dir_brackets.Goals as goal

at : (c : goal.After-put_dir_brackets) → position (λ (branch : Branch). branch.uid == c.args.uid) c.self.inside.list.items ≡ Some c.in-Some.place
at c = ap (position (λ (branch : Branch). branch.uid == c.args.uid)) (sym c.as_slice.ensures.value) ∙ sym c.place_of.ensures ∙ c.in-Some.is

pub invariant_of-self : goal.invariant_of-self
invariant_of-self c =
    set_numbered (branch_with_directory (dir_bracketed c.args.d1 c.args.d2)) (λ branch. refl) c.self.inside.list.items c.self.inside.next c.args.uid c.args.self.now c.self.view_is
    c.self.invariant c.in-Some.place (at c) c.put_dir_brackets.new.branches.items c.put_dir_brackets.ensures

pub returns-in-Some : goal.returns-in-Some
returns-in-Some c =
    set_listed (branch_with_directory (dir_bracketed c.args.d1 c.args.d2)) (λ branch. refl) c.self.inside.list.items c.self.inside.next c.args.uid c.args.self.now c.self.view_is
    c.self.invariant c.in-Some.place (at c) c.put_dir_brackets.new.branches.items c.put_dir_brackets.ensures

pub returns-in_default : goal.returns-in_default
returns-in_default c =
    unlisted (branch_with_directory (dir_bracketed c.args.d1 c.args.d2)) (λ branch. refl) c.self.inside.list.items c.self.inside.next c.args.uid c.args.self.now c.self.view_is
    (ap (position (λ (branch : Branch). branch.uid == c.args.uid)) (sym c.as_slice.ensures.value) ∙ sym c.place_of.ensures ∙ c.in_default.is)
