-- What the verdicts of an auditor mean: only the last of them may log its process out.
use Rattle.std.specs.Prelude.{◌≡◌, ℕ, List, [], ◌∷◌, Option, Some, None}
use Rattle.mx_audit.specs.Accounts.{Told}
use Rattle.mx_audit.specs.declared.auditors.Verdict.TheVariants.{GoOn}
use Rattle.mx_sdw.specs.declared.denials.Denial.{Denial}

-- what it was told of, without its answer
abbrev pub denial_in : Told → ℕ × Denial
denial_in told = (told.0, told.1)

-- all its verdicts but the last let the process go on
abbrev pub GoOnToLast : List Told → Type 0
GoOnToLast [] = Unit {0}
GoOnToLast (told ∷ []) = Unit {0}
GoOnToLast (told ∷ next ∷ more) = (told.2 ≡ GoOn) × GoOnToLast (next ∷ more)

-- what it was told of last
abbrev pub last_told : List Told → Option Told
last_told [] = None
last_told (told ∷ []) = Some told
last_told (told ∷ next ∷ more) = last_told (next ∷ more)
