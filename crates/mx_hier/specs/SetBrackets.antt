-- `set_brackets PATH R1 R2 R3`
use Rattle.std.specs.Prelude.{ℕ, nat_lt, Bool, true, ◌||◌, List, [], ◌∷◌, ◌++◌, Result, Ok, is_none}
use Rattle.mx_sdw.specs.Rings.{Bracketing}
use Rattle.mx_hier.specs.declared.branches.Segment.{Segment}
use Rattle.mx_hier.specs.declared.refusals.Refusal.{Refusal}
use Rattle.mx_hier.specs.declared.refusals.Refusal.TheVariants.{NotASeg, BadBrackets}
use Rattle.mx_hier.specs.Branches.{Hierarchy, segment_at}
use Rattle.mx_hier.specs.Brackets.{settable}
use Rattle.mx_hier.specs.Callers.{Subject, Caller, on}
use Rattle.mx_hier.specs.Changing.{changing_refusals, with_segment}
use Rattle.mx_hier.specs.Rules.{first_of, required, onward, unless}
use Rattle.mx_hier.specs.Walks.{entry}

-- neither the new nor the old first bracket may be below the caller's ring
abbrev pub set_brackets_refusals : Hierarchy → Subject → ℕ → List ℕ → List (Bool × Refusal)
set_brackets_refusals hierarchy who uid rings = changing_refusals hierarchy who uid ++
    (is_none (segment_at hierarchy uid), NotASeg)
    ∷ (
      is_none (settable who.ring rings)
          || on (λ segment. nat_lt segment.brackets.r1 who.ring) (segment_at hierarchy uid),
      BadBrackets,
    ) ∷ []

abbrev pub bracketed : Bracketing → Segment → Segment
bracketed brackets segment = record segment { brackets = brackets }

abbrev pub with_brackets : Hierarchy → ℕ → Bracketing → Hierarchy
with_brackets hierarchy uid brackets = with_segment hierarchy uid (bracketed brackets)

abbrev pub set_brackets_at : Hierarchy → Subject → ℕ → List ℕ → Result Hierarchy Refusal
set_brackets_at hierarchy who uid rings =
    onward (unless (first_of (set_brackets_refusals hierarchy who uid rings)) uid) (λ uid.
    onward (required BadBrackets (settable who.ring rings)) (λ brackets. Ok (with_brackets hierarchy uid brackets)))

abbrev pub set_brackets : Hierarchy → Caller → List ℕ → List ℕ → Result Hierarchy Refusal
set_brackets hierarchy who path rings = onward (entry hierarchy who path true) (λ uid. set_brackets_at hierarchy who.subject uid rings)
