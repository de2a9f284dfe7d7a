-- How a request is refused, and what a call answers.
use Rattle.std.specs.Prelude.{◌≡◌, Bool, List, [], ◌∷◌, Option, Some, None, Result, Ok, Err, IsOk, if◌then◌else◌}
-- passed on for what stands on these rules: `unless (first_of rules) value`
pub use Rattle.mx_name.specs.Answers.{unless}
use Rattle.mx_hier.specs.declared.branches.Directory.{Directory}
use Rattle.mx_hier.specs.declared.refusals.Refusal.{Refusal}
use Rattle.mx_hier.specs.declared.refusals.Refusal.TheVariants.{NoInfo}
use Rattle.mx_hier.specs.declared.refusals.HierError.{HierError}
use Rattle.mx_hier.specs.declared.refusals.HierError.TheVariants.{Refused, Memory}
use Rattle.mx_hier.specs.Branches.{Hierarchy}
use Rattle.mx_hier.specs.Callers.{Subject, has_status, on}

-- "Say x at d": x where the caller has s on directory d in his ring, and no_info otherwise
abbrev pub say : Subject → Refusal → Option Directory → Refusal
say who why dir = if on (has_status who) dir then why else NoInfo

-- the refusal of the first rule in order whose condition holds
abbrev pub first_of : List (Bool × Refusal) → Option Refusal
first_of [] = None
first_of (rule ∷ rules) = if rule.0 then Some rule.1 else first_of rules

-- what there must be, or the refusal
abbrev pub required : {A : Type 0} → Refusal → Option A → Result A Refusal
required why (Some value) = Ok value
required why None = Err why

-- what follows where nothing was refused so far
abbrev pub onward : {A B : Type 0} → Result A Refusal → (A → Result B Refusal) → Result B Refusal
onward (Ok value) rest = rest value
onward (Err why) rest = Err why

-- A call leaves the hierarchy that is meant, or is refused as is meant and changes nothing. Where memory was wanting,
-- nothing has changed either.
abbrev pub Answers : {A : Type 0} → Result Hierarchy Refusal → Hierarchy → Result A HierError → Hierarchy → Type 0
Answers meant old (Ok value) new = meant ≡ Ok new
Answers meant old (Err (Refused why)) new = (meant ≡ Err why) × (new ≡ old)
Answers meant old (Err Memory) new = new ≡ old

-- the same of a call that only asks
abbrev pub Tells : {A : Type 0} → Result A Refusal → Result A HierError → Type 0
Tells meant (Ok value) = meant ≡ Ok value
Tells meant (Err (Refused why)) = meant ≡ Err why
Tells meant (Err Memory) = Unit {0}

-- A refusal that is found before any memory is taken is told, and not the want of memory.
abbrev pub TellsFirst : {A B : Type 0} → Result A Refusal → Result B HierError → Type 0
TellsFirst found (Ok value) = Unit {0}
TellsFirst found (Err (Refused why)) = Unit {0}
TellsFirst found (Err Memory) = IsOk found
