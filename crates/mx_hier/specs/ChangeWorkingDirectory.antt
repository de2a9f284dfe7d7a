-- For `change_wdir PATH`: the path of a directory on which some mode is left to the caller.
use Rattle.std.specs.Prelude.{ℕ, Bool, true, not, List, [], ◌∷◌, Result, is_none}
use Rattle.mx_hier.specs.declared.refusals.Refusal.{Refusal}
use Rattle.mx_hier.specs.declared.refusals.Refusal.TheVariants.{NotADir, IncorrectAccess}
use Rattle.mx_hier.specs.Branches.{Hierarchy, directory_at, holding}
use Rattle.mx_hier.specs.Callers.{Subject, Caller, has_any, on}
use Rattle.mx_hier.specs.Rules.{first_of, say, onward, unless}
use Rattle.mx_hier.specs.Walks.{resolved, reached}

abbrev pub directory_refusals : Hierarchy → Subject → ℕ → List (Bool × Refusal)
directory_refusals hierarchy who uid =
    (is_none (directory_at hierarchy uid), say who NotADir (holding hierarchy uid))
    ∷ (not (on (has_any who) (directory_at hierarchy uid)), say who IncorrectAccess (holding hierarchy uid)) ∷ []

abbrev pub directory_reached : Hierarchy → Subject → List (List ℕ) → Result (Unit {0}) Refusal
directory_reached hierarchy who path = onward (reached hierarchy who true path) (λ uid. unless (first_of (directory_refusals hierarchy who uid)) tt)

-- the path as it is written, not where its links lead
abbrev pub directory : Hierarchy → Caller → List ℕ → Result (List (List ℕ)) Refusal
directory hierarchy who pathname =
    onward (resolved who pathname) (λ path.
    onward (reached hierarchy who.subject true path) (λ uid. unless (first_of (directory_refusals hierarchy who.subject uid)) path))
