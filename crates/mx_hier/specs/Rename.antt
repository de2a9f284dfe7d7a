-- `rename PATH NAME`: a link itself is renamed
use Rattle.std.specs.Prelude.{ℕ, ◌==◌, Bool, false, List, [], ◌∷◌, ◌++◌, Result, is_some}
use Rattle.mx_hier.specs.declared.refusals.Refusal.{Refusal}
use Rattle.mx_hier.specs.declared.refusals.Refusal.TheVariants.{IncorrectAccess, NameDup}
use Rattle.mx_hier.specs.Branches.{Hierarchy, uid_in, holder}
use Rattle.mx_hier.specs.Callers.{Subject, Caller, on}
use Rattle.mx_hier.specs.Changing.{changing_refusals, with_branch}
use Rattle.mx_hier.specs.Rules.{first_of, onward, unless}
use Rattle.mx_hier.specs.Walks.{entry}

-- the root has no name; NAME may not be in the holder, as the entry's own name is
abbrev pub rename_refusals : Hierarchy → Subject → ℕ → List ℕ → List (Bool × Refusal)
rename_refusals hierarchy who uid name = changing_refusals hierarchy who uid ++
    (uid == 0, IncorrectAccess)
    ∷ (on (λ dir. is_some (uid_in hierarchy.branches dir name)) (holder hierarchy uid), NameDup) ∷ []

abbrev pub rename_at : Hierarchy → Subject → ℕ → List ℕ → Result Hierarchy Refusal
rename_at hierarchy who uid name =
    unless (first_of (rename_refusals hierarchy who uid name)) (with_branch hierarchy uid (λ branch. record branch { name = name }))

abbrev pub rename : Hierarchy → Caller → List ℕ → List ℕ → Result Hierarchy Refusal
rename hierarchy who path name = onward (entry hierarchy who path false) (λ uid. rename_at hierarchy who.subject uid name)
