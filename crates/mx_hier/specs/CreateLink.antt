-- `create_link PATH TARGET`
use Rattle.std.specs.Prelude.{ℕ, List, Result, Ok}
use Rattle.mx_hier.specs.declared.branches.Node.TheVariants.{Link as IsLink}
use Rattle.mx_hier.specs.declared.making.Place.{Place}
use Rattle.mx_hier.specs.declared.refusals.Refusal.{Refusal}
use Rattle.mx_hier.specs.Branches.{Hierarchy}
use Rattle.mx_hier.specs.Callers.{Subject, Caller}
use Rattle.mx_hier.specs.Making.{place, making_refusals, made, added}
use Rattle.mx_hier.specs.Rules.{onward}
use Rattle.mx_hier.specs.Walks.{resolved}

-- a link has no access list
abbrev pub create_link_at : Hierarchy → Subject → Place → List (List ℕ) → Result Hierarchy Refusal
create_link_at hierarchy who at target = made hierarchy at (making_refusals hierarchy who at) (λ parent. Ok (added hierarchy at (IsLink target)))

-- the target is resolved, and need not be there; both are resolved before anything else is asked
abbrev pub create_link : Hierarchy → Caller → List ℕ → List ℕ → Result Hierarchy Refusal
create_link hierarchy who pathname target =
    onward (resolved who pathname) (λ path.
    onward (resolved who target) (λ target.
    onward (place hierarchy who.subject path) (λ at. create_link_at hierarchy who.subject at target)))
