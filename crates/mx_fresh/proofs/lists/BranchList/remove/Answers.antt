use Rattle.std.proofs.Common.{◌≡◌, ◌==◌, not, List, sym, ap, subst, ◌∙◌, rules}
use Rattle.std.proofs.lemmas.Fn.{filter_same}
use Rattle.mx_hier.specs.declared.branches.Branch.{Branch}
use Rattle.mx_hier.specs.Delete.{without}
use Rattle.mx_hier.specs.Listed.{Listed}
use Rattle.mx_fresh.specs.Numbered.{AreNumbered}
use Rattle.mx_fresh.proofs.NumberLaws.{numbered_filtered}
use Rattle.mx_fresh.proofs.lists.BranchList.remove.Goals as goal
use Rattle.mx_fresh.proofs.lists.BranchList.remove.Goals.{After-retain}

left : (c : After-retain) → c.retain.new.self.items ≡ without c.args.uid c.self.inside.list.items
left c = filter_same _ (λ (branch : Branch). not (branch.uid == c.args.uid)) _ (λ x b f' k. search rules) _ _ c.retain.ensures.filtered

pub invariant_of-self : goal.invariant_of-self
invariant_of-self c =
    subst (λ (list : List Branch). AreNumbered 1 list c.self.inside.next) (sym (left c))
    (numbered_filtered (λ (branch : Branch). not (branch.uid == c.args.uid)) 1 c.self.inside.list.items c.self.inside.next c.self.invariant)

pub returns : goal.returns
returns c =
    ap (λ (later : List Branch). record { branches = later; next = c.self.inside.next }) (left c)
    ∙ ap (λ (list : Listed). record { branches = without c.args.uid list.branches; next = list.next }) c.self.view_is
