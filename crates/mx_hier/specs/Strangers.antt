-- A caller to whom s on no directory is left, or no access to any, and what he may be told.
use Rattle.std.specs.Prelude.{◌≡◌, ◌⊎◌, ℕ, false, Result, Ok, Err}
use Rattle.mx_hier.specs.declared.refusals.Refusal.{Refusal}
use Rattle.mx_hier.specs.declared.refusals.Refusal.TheVariants.{BadPath, NoInfo}
use Rattle.mx_hier.specs.Branches.{Hierarchy, directory_at}
use Rattle.mx_hier.specs.Callers.{Subject, has_status, has_any, on}

abbrev pub IsStranger : Hierarchy → Subject → Type 0
IsStranger h who = (uid : ℕ) → on (has_status who) (directory_at h uid) ≡ false

-- that his pathname is bad, or nothing
abbrev pub IsReticent : {A : Type 0} → Result A Refusal → Type 0
IsReticent (Ok value) = Unit {0}
IsReticent (Err why) = (why ≡ BadPath) ⊎ (why ≡ NoInfo)

-- a caller to whom nothing on any directory is left, and that he is refused with no more
abbrev pub IsOutsider : Hierarchy → Subject → Type 0
IsOutsider h who = (uid : ℕ) → on (has_any who) (directory_at h uid) ≡ false

abbrev pub IsTurnedAway : {A : Type 0} → Result A Refusal → Type 0
IsTurnedAway (Ok value) = ⊥
IsTurnedAway (Err why) = (why ≡ BadPath) ⊎ (why ≡ NoInfo)
