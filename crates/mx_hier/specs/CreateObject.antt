-- `create_object PATH WORDS R1 R2 R3 GATE`: a segment with an object map, to which its maker has re
use Rattle.std.specs.Prelude.{ℕ, List, Some, Result}
use Rattle.mx_acl.specs.declared.modes.Modes.TheVariants.{Re}
use Rattle.mx_object.specs.Objects.{PlainObjectMap}
use Rattle.mx_hier.specs.declared.refusals.Refusal.{Refusal}
use Rattle.mx_hier.specs.Branches.{Hierarchy}
use Rattle.mx_hier.specs.Callers.{Caller}
use Rattle.mx_hier.specs.MakeSegment.{make_segment}

abbrev pub create_object : Hierarchy → Caller → List ℕ → ℕ → List ℕ → PlainObjectMap → Result Hierarchy Refusal
create_object hierarchy who pathname words rings object =
    make_segment hierarchy who pathname (record { words = words; rings = rings; modes = Re; object = Some object })
