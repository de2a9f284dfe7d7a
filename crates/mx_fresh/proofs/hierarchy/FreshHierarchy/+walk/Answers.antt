use Rattle.std.proofs.Common.{◌≡◌, ◌-◌, ℕ, List, IfOk, Result, sym, ap, subst, ◌∙◌, arith}
use Rattle.std.specs.Option.{option_map}
use Rattle.mx_hier.specs.declared.refusals.Refusal.{Refusal}
use Rattle.mx_hier.specs.Walks.{walk, told}
use Rattle.mx_hier.specs.Who.{subject}
use Rattle.mx_hier.proofs.WalkLaws.{walk_linked}
use Rattle.mx_fresh.specs.Stops.{stop_of}
use Rattle.mx_fresh.proofs.hierarchy.FreshHierarchy.+walk.Goals as goal

pub returns-else-left-eq0 : goal.returns-else-left-eq0
returns-else-left-eq0 t c =
    let h = c.args.self.now in
    let who = subject c.args.who.now in
    subst (λ (meant : Result ℕ Refusal). IfOk c.walk.result (λ uid. uid ≡ meant))
    (ap (λ (names : List (List ℕ)). told who (walk (c.args.left - 1) h c.args.follow 0 names)) c.as_slice.ensures.value
    ∙ walk_linked c.args.left h who c.args.follow c.args.from c.args.names.now (option_map (λ directory. directory.now) c.in-Linked.dir)
    c.in-Linked.path.items (omega arith) (ap stop_of (sym c.in-Linked.is) ∙ c.in_ok-uid.ensures))
    c.walk.ensures
