use Rattle.std.proofs.Common.{ℕ, List, ap, ◌∙◌, ◌==◌, ◌≡◌, ◌≤◌, ◌<◌, subst}
use Rattle.std.specs.Cmp.Lexicographic.{pointwise}
use Rattle.std.specs.Map.{lookup}
use Rattle.std.specs.Option.{IfSome}
use Rattle.mx_hier.specs.Branches.{uid_in}
use Rattle.mx_hier.specs.Listed.{Listed, present, kept_for}
use Rattle.mx_hier.proofs.NameLaws.{name_found, uid_below}
use Rattle.mx_hier.proofs.tables.Tables.found_in.Goals as goal

found : (c : goal.After-found_at) → c.found_at.result ≡ uid_in (present c.self.inside.slots.items) c.args.dir c.args.name.now
found c =
    c.found_at.ensures
    ∙ ap (λ (names : List (List (List ℕ × ℕ))). lookup (pointwise ◌==◌ c.args.name.now) (kept_for names c.args.dir)) c.deref.ensures.value
    ∙ ap (lookup (pointwise ◌==◌ c.args.name.now)) (c.self.invariant.same c.args.dir)
    ∙ name_found (present c.self.inside.slots.items) c.args.dir c.args.name.now

pub returns-clause-value : goal.returns-clause-value
returns-clause-value c = found c ∙ ap (λ (value : Listed). uid_in value.branches c.args.dir c.args.name.now) c.self.view_is

pub returns-clause-below : goal.returns-clause-below
returns-clause-below c =
    subst (λ (value : Listed). IfSome c.found_at.result (λ uid. (1 ≤ uid) × (uid < value.next))) c.self.view_is
    (rw (found c) (uid_below 1 c.self.inside.slots.items c.args.dir c.args.name.now c.self.invariant.keyed))
