-- The entry of a segment's access list that decides for a principal, and the descriptor's flags that it explains.
use Rattle.std.specs.Prelude.{◌≡◌, ℕ, Bool, false, not, ◌&&◌, Option, Some, None}
use Rattle.mx_name.specs.Identifiers.{PlainAclId}
use Rattle.mx_name.specs.Principals.{PlainPrincipal}
use Rattle.mx_acl.specs.Access.{deciding}
use Rattle.mx_acl.specs.Modes.{has_r, has_e, has_w}
use Rattle.mx_acl.specs.declared.modes.Modes.{Modes}
use Rattle.mx_sdw.specs.Descriptors.{is_equal, is_neither}
use Rattle.mx_sdw.specs.declared.descriptors.Desc.{Desc}
use Rattle.mx_hier.specs.declared.branches.Segment.{Segment}
use Rattle.mx_hier.specs.Branches.{Hierarchy, segment_at}

-- no entry decides of a segment that was deleted
abbrev pub entry_for : PlainPrincipal → Option Segment → Option (PlainAclId × Modes)
entry_for who None = None
entry_for who (Some segment) = deciding who segment.acl.entries

abbrev pub deciding_entry : Hierarchy → ℕ → PlainPrincipal → Option (PlainAclId × Modes)
deciding_entry h uid who = entry_for who (segment_at h uid)

-- whether an entry's modes have a letter; without an entry none is given
abbrev pub gives : (Modes → Bool) → Option (PlainAclId × Modes) → Bool
gives has None = false
gives has (Some pair) = has pair.1

-- the flags of a descriptor are the letters of an entry's modes that its aim lets stand, and all off without an entry
pub record AreFlagsOf (entry : Option (PlainAclId × Modes)) (desc : Desc) : Type 0 where
  pub read : desc.r ≡ (not (is_neither desc.aim) && gives has_r entry)
  pub execute : desc.e ≡ (not (is_neither desc.aim) && gives has_e entry)
  pub write : desc.w ≡ (is_equal desc.aim && gives has_w entry)
