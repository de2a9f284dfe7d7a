-- `set_dir_brackets PATH D1 D2`
use Rattle.std.specs.Prelude.{ℕ, nat_lt, Bool, true, ◌||◌, List, [], ◌∷◌, ◌++◌, Result, is_none}
use Rattle.mx_hier.specs.declared.branches.Directory.{Directory}
use Rattle.mx_hier.specs.declared.refusals.Refusal.{Refusal}
use Rattle.mx_hier.specs.declared.refusals.Refusal.TheVariants.{NotADir, BadBrackets}
use Rattle.mx_hier.specs.Branches.{Hierarchy, directory_at}
use Rattle.mx_hier.specs.Callers.{Subject, Caller, on}
use Rattle.mx_hier.specs.Changing.{changing_refusals, with_directory}
use Rattle.mx_hier.specs.Rules.{first_of, onward, unless}
use Rattle.mx_hier.specs.Walks.{entry}

-- neither the new nor the old first bracket may be below the caller's ring
abbrev pub set_dir_brackets_refusals : Hierarchy → Subject → ℕ → ℕ → ℕ → List (Bool × Refusal)
set_dir_brackets_refusals hierarchy who uid d1 d2 = changing_refusals hierarchy who uid ++
    (is_none (directory_at hierarchy uid), NotADir)
    ∷ (
      nat_lt d2 d1 || nat_lt d1 who.ring
          || on (λ directory. nat_lt directory.d1 who.ring) (directory_at hierarchy uid),
      BadBrackets,
    ) ∷ []

abbrev pub dir_bracketed : ℕ → ℕ → Directory → Directory
dir_bracketed d1 d2 directory = record directory { d1 = d1; d2 = d2 }

abbrev pub with_dir_brackets : Hierarchy → ℕ → ℕ → ℕ → Hierarchy
with_dir_brackets hierarchy uid d1 d2 = with_directory hierarchy uid (dir_bracketed d1 d2)

abbrev pub set_dir_brackets_at : Hierarchy → Subject → ℕ → ℕ → ℕ → Result Hierarchy Refusal
set_dir_brackets_at hierarchy who uid d1 d2 =
    unless (first_of (set_dir_brackets_refusals hierarchy who uid d1 d2)) (with_dir_brackets hierarchy uid d1 d2)

abbrev pub set_dir_brackets : Hierarchy → Caller → List ℕ → ℕ → ℕ → Result Hierarchy Refusal
set_dir_brackets hierarchy who path d1 d2 = onward (entry hierarchy who path true) (λ uid. set_dir_brackets_at hierarchy who.subject uid d1 d2)
