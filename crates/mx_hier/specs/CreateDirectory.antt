-- `create_dir PATH D1 D2`
use Rattle.std.specs.Prelude.{ℕ, nat_lt, Bool, ◌||◌, List, [], ◌∷◌, ◌++◌, Result, Ok}
use Rattle.mx_acl.specs.declared.modes.Modes.TheVariants.{Sma}
use Rattle.mx_hier.specs.declared.branches.Directory.{Directory}
use Rattle.mx_hier.specs.declared.branches.Node.TheVariants.{Directory as IsDirectory}
use Rattle.mx_hier.specs.declared.making.Place.{Place}
use Rattle.mx_hier.specs.declared.refusals.Refusal.{Refusal}
use Rattle.mx_hier.specs.declared.refusals.Refusal.TheVariants.{BadBrackets}
use Rattle.mx_hier.specs.Branches.{Hierarchy}
use Rattle.mx_hier.specs.Callers.{Subject, Caller}
use Rattle.mx_hier.specs.InitialAccess.{no_initial}
use Rattle.mx_hier.specs.Making.{place, making_refusals, made, added, first_acl}
use Rattle.mx_hier.specs.Rules.{onward}
use Rattle.mx_hier.specs.Walks.{resolved}

abbrev pub create_dir_refusals : Hierarchy → Subject → Place → ℕ → ℕ → List (Bool × Refusal)
create_dir_refusals hierarchy who at d1 d2 = making_refusals hierarchy who at ++ (nat_lt d2 d1 || nat_lt d1 who.ring, BadBrackets) ∷ []

-- its own initial access lists are empty: those of the parent are not handed down
abbrev pub new_directory : Directory → Subject → ℕ → ℕ → Directory
new_directory parent who d1 d2 =
    record { acl = first_acl parent.initial.directories who Sma; initial = no_initial; d1 = d1; d2 = d2 }

abbrev pub create_dir_at : Hierarchy → Subject → Place → ℕ → ℕ → Result Hierarchy Refusal
create_dir_at hierarchy who at d1 d2 =
    made hierarchy at (create_dir_refusals hierarchy who at d1 d2) (λ parent.
    Ok (added hierarchy at (IsDirectory (new_directory parent who d1 d2))))

abbrev pub create_dir : Hierarchy → Caller → List ℕ → ℕ → ℕ → Result Hierarchy Refusal
create_dir hierarchy who pathname d1 d2 =
    onward (resolved who pathname) (λ path.
    onward (place hierarchy who.subject path) (λ at. create_dir_at hierarchy who.subject at d1 d2))
