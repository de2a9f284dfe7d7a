-- The descriptor that a principal with an authorization has of a segment.
use Rattle.std.specs.Prelude.{ℕ, Option, Some, None}
use Rattle.mx_name.specs.Principals.{PlainPrincipal}
use Rattle.mx_acl.specs.Access.{modes_for}
use Rattle.mx_acl.specs.Modes.{has_r, has_e, has_w}
use Rattle.mx_aim.specs.Classes.{PlainClass, aim_of}
use Rattle.mx_sdw.specs.Descriptors.{gone_desc, classed_desc}
use Rattle.mx_sdw.specs.declared.descriptors.Desc.{Desc}
use Rattle.mx_hier.specs.declared.branches.Segment.{Segment}
use Rattle.mx_hier.specs.Branches.{Hierarchy, segment_at, object_at}
use Rattle.mx_hier.specs.Objects.{gate_of}

-- its aim is that of the authorization at the segment's class, its flags are what the access list gives and the aim
-- lets stand, and its gates those of its object map; gone where the segment was deleted
abbrev pub desc_for : PlainPrincipal → PlainClass → ℕ → Option Segment → Desc
desc_for who authorization gate None = gone_desc
desc_for who authorization gate (Some segment) =
    classed_desc (aim_of authorization segment.class) segment.brackets
    (has_r (modes_for segment.acl who)) (has_e (modes_for segment.acl who)) (has_w (modes_for segment.acl who))
    gate segment.page segment.words

abbrev pub desc_of : Hierarchy → ℕ → PlainPrincipal → PlainClass → Desc
desc_of hierarchy uid who authorization = desc_for who authorization (gate_of (object_at hierarchy uid)) (segment_at hierarchy uid)
