-- The entry that decides explains the flags of the descriptor.
use Rattle.std.proofs.Common.{◌≡◌, ℕ, Bool, false, not, ◌&&◌, Option, None, Some, refl, ap}
use Rattle.std.specs.Option.{option_map, unwrap_or}
use Rattle.mx_name.specs.Identifiers.{PlainAclId}
use Rattle.mx_name.specs.Principals.{PlainPrincipal}
use Rattle.mx_acl.specs.Access.{deciding}
use Rattle.mx_acl.specs.Modes.{has_r, has_e, has_w}
use Rattle.mx_acl.specs.declared.modes.Modes.{Modes}
use Rattle.mx_acl.specs.declared.modes.Modes.TheVariants.{Null}
use Rattle.mx_aim.specs.Classes.{PlainClass, aim_of}
use Rattle.mx_sdw.specs.Descriptors.{is_equal, is_neither}
use Rattle.mx_hier.specs.declared.branches.Segment.{Segment}
use Rattle.mx_hier.specs.Branches.{Hierarchy, segment_at, object_at}
use Rattle.mx_hier.specs.Connected.{desc_of, desc_for}
use Rattle.mx_hier.specs.DecidingEntry.{deciding_entry, entry_for, gives, AreFlagsOf}
use Rattle.mx_hier.specs.Objects.{gate_of}

letter : (has : Modes → Bool) (entry : Option (PlainAclId × Modes)) → has Null ≡ false
    → has (unwrap_or (option_map (λ (pair : PlainAclId × Modes). pair.1) entry) Null) ≡ gives has entry
letter has None null = null
letter has (Some pair) null = refl

flags_for : (who : PlainPrincipal) (authorization : PlainClass) (gate : ℕ) (found : Option Segment)
    → AreFlagsOf (entry_for who found) (desc_for who authorization gate found)
flags_for who authorization gate None = record { read = refl; execute = refl; write = refl }
flags_for who authorization gate (Some segment) =
    let aim = aim_of authorization segment.class in
    record {
      read = ap (λ (b : Bool). not (is_neither aim) && b) (letter has_r (deciding who segment.acl.entries) refl);
      execute = ap (λ (b : Bool). not (is_neither aim) && b) (letter has_e (deciding who segment.acl.entries) refl);
      write = ap (λ (b : Bool). is_equal aim && b) (letter has_w (deciding who segment.acl.entries) refl);
    }

pub flags_of_entry : (h : Hierarchy) (uid : ℕ) (who : PlainPrincipal) (authorization : PlainClass)
    → AreFlagsOf (deciding_entry h uid who) (desc_of h uid who authorization)
flags_of_entry h uid who authorization = flags_for who authorization (gate_of (object_at h uid)) (segment_at h uid)
