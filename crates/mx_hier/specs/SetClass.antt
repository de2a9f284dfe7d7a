-- `set_class PATH CLASS`
use Rattle.std.specs.Prelude.{ℕ, nat_le, Bool, true, not, ◌&&◌, List, [], ◌∷◌, ◌++◌, Result, is_none}
use Rattle.mx_aim.specs.Classes.{PlainClass, dominates}
use Rattle.mx_hier.specs.declared.branches.Segment.{Segment}
use Rattle.mx_hier.specs.declared.refusals.Refusal.{Refusal}
use Rattle.mx_hier.specs.declared.refusals.Refusal.TheVariants.{NotASeg, BadClass}
use Rattle.mx_hier.specs.Branches.{Hierarchy, segment_at}
use Rattle.mx_hier.specs.Callers.{Subject, Caller, on}
use Rattle.mx_hier.specs.Changing.{changing_refusals, with_segment}
use Rattle.mx_hier.specs.Rules.{first_of, onward, unless}
use Rattle.mx_hier.specs.Walks.{entry}

-- from ring 2 on the new class has to dominate the present one
abbrev pub set_class_refusals : Hierarchy → Subject → ℕ → PlainClass → List (Bool × Refusal)
set_class_refusals hierarchy who uid class = changing_refusals hierarchy who uid ++
    (is_none (segment_at hierarchy uid), NotASeg)
    ∷ (nat_le 2 who.ring && on (λ segment. not (dominates class segment.class)) (segment_at hierarchy uid), BadClass) ∷ []

abbrev pub classed : PlainClass → Segment → Segment
classed class segment = record segment { class = class }

abbrev pub with_class : Hierarchy → ℕ → PlainClass → Hierarchy
with_class hierarchy uid class = with_segment hierarchy uid (classed class)

abbrev pub set_class_at : Hierarchy → Subject → ℕ → PlainClass → Result Hierarchy Refusal
set_class_at hierarchy who uid class = unless (first_of (set_class_refusals hierarchy who uid class)) (with_class hierarchy uid class)

abbrev pub set_class : Hierarchy → Caller → List ℕ → PlainClass → Result Hierarchy Refusal
set_class hierarchy who path class = onward (entry hierarchy who path true) (λ uid. set_class_at hierarchy who.subject uid class)
