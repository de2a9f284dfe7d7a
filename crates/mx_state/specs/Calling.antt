-- Helpers that only private contracts cite: who a request's caller is.
use Rattle.std.specs.Prelude.{◌≡◌, ℕ, List, [], Option, Some, None, Result, Ok}
use Rattle.mx_hier.specs.Callers.{Caller}
use Rattle.mx_hier.specs.Walks.{resolved}
use Rattle.mx_hier.specs.declared.refusals.Refusal.{Refusal}
use Rattle.mx_state.specs.Askers.{Asker, Initializer, Process, Nobody, initial_caller, caller}

abbrev pub IsCallerOf : Asker → ℕ → Caller → Type 0
IsCallerOf Initializer ring who = who ≡ initial_caller ring
IsCallerOf (Process process) ring who = who ≡ caller process ring
IsCallerOf Nobody ring who = ⊥

-- the path from the root of the pathname with which a request begins, if any
abbrev pub begun : Caller → Option (List ℕ) → Result (List (List ℕ)) Refusal
begun who None = Ok []
begun who (Some path) = resolved who path
