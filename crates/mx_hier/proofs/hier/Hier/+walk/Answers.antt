use Rattle.std.proofs.Common.{◌≡◌, ◌++◌, ◌-◌, ℕ, List, IfOk, Result, ap, subst, ◌∙◌, arith}
use Rattle.std.specs.Option.{option_map}
use Rattle.mx_hier.specs.declared.refusals.Refusal.{Refusal}
use Rattle.mx_hier.specs.Walks.{walk, told}
use Rattle.mx_hier.specs.Who.{subject}
use Rattle.mx_hier.proofs.WalkLaws.{walk_linked}
use Rattle.mx_hier.proofs.hier.Hier.+walk.Goals as goal

pub returns-in_ok-path-in-Linked : goal.returns-in_ok-path-in-Linked
returns-in_ok-path-in-Linked t c =
    let h = c.args.self.now in
    let who = subject c.args.who.now in
    subst (λ (meant : Result ℕ Refusal). IfOk c.walk.result (λ uid. uid ≡ meant))
    (ap (λ (names : List (List ℕ)). told who (walk (c.args.left - 1) h c.args.follow 0 names)) (c.of.ensures ∙ c.as_slice.ensures.value ∙ c.in_ok-path-in-Linked.ensures)
    ∙ walk_linked c.args.left h who c.args.follow c.args.from c.args.names (option_map (λ directory. directory.now) c.in-Linked.dir)
    (c.in-Linked.target.now ++ c.in-Linked.rest) (omega arith) c.in-Linked.ensures)
    c.walk.ensures
