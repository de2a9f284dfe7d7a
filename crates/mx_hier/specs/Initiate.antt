-- For `initiate PATH`: the uid of a segment to which some access is left to the caller.
use Rattle.std.specs.Prelude.{ℕ, Bool, true, not, List, [], ◌∷◌, Result, is_none}
use Rattle.mx_hier.specs.declared.refusals.Refusal.{Refusal}
use Rattle.mx_hier.specs.declared.refusals.Refusal.TheVariants.{NotASeg, IncorrectAccess}
use Rattle.mx_hier.specs.Branches.{Hierarchy, segment_at, holding}
use Rattle.mx_hier.specs.Callers.{Subject, Caller, has_access, on}
use Rattle.mx_hier.specs.Rules.{first_of, say, onward, unless}
use Rattle.mx_hier.specs.Walks.{entry}

abbrev pub segment_refusals : Hierarchy → Subject → ℕ → List (Bool × Refusal)
segment_refusals hierarchy who uid =
    (is_none (segment_at hierarchy uid), say who NotASeg (holding hierarchy uid))
    ∷ (not (on (has_access who) (segment_at hierarchy uid)), say who IncorrectAccess (holding hierarchy uid)) ∷ []

abbrev pub segment : Hierarchy → Caller → List ℕ → Result ℕ Refusal
segment hierarchy who path = onward (entry hierarchy who path true) (λ uid. unless (first_of (segment_refusals hierarchy who.subject uid)) uid)
