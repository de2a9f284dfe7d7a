-- `create_seg PATH WORDS R1 R2 R3`: a segment that is no object, to which its maker has rw
use Rattle.std.specs.Prelude.{ℕ, List, None, Result}
use Rattle.mx_acl.specs.declared.modes.Modes.TheVariants.{Rw}
use Rattle.mx_hier.specs.declared.refusals.Refusal.{Refusal}
use Rattle.mx_hier.specs.Branches.{Hierarchy}
use Rattle.mx_hier.specs.Callers.{Caller}
use Rattle.mx_hier.specs.MakeSegment.{make_segment}

abbrev pub create_seg : Hierarchy → Caller → List ℕ → ℕ → List ℕ → Result Hierarchy Refusal
create_seg hierarchy who pathname words rings =
    make_segment hierarchy who pathname (record { words = words; rings = rings; modes = Rw; object = None })
