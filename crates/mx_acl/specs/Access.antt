-- Access control lists: sets of pairs of an identifier and modes, no identifier twice.
use Rattle.std.specs.Prelude.{ℕ, Bool, ◌&&◌, not, ◌≤◌, T, nat_lt, nat_le, List, [], ◌∷◌, Option, None, Some, if◌then◌else◌, length}
use Rattle.std.specs.Ordering.{eq_by_cmp}
use Rattle.std.specs.Option.{is_none, option_map, unwrap_or}
use Rattle.std.specs.FinMap.Entries.{put, find, where_key, is_sorted}
use Rattle.mx_name.specs.Identifiers.{PlainAclId, id_matches, id_rank}
use Rattle.mx_name.specs.IdentifierOrder.{id_cmp}
use Rattle.mx_name.specs.Principals.{PlainPrincipal}
use Rattle.mx_acl.specs.declared.modes.Modes.{Modes}
use Rattle.mx_acl.specs.declared.modes.Modes.TheVariants.{Null}
use Rattle.mx_acl.specs.declared.modes.AclKind.{AclKind}
use Rattle.mx_acl.specs.declared.lists.AclError.{AclError}
use Rattle.mx_acl.specs.declared.lists.AclError.TheVariants.{InvalidMode, Full}
use Rattle.mx_acl.specs.Modes.{suits}

-- the pairs are written in the order of their identifiers, so that equal sets are equal lists
pub record Access : Type 0 where
  pub kind : AclKind
  pub entries : List (PlainAclId × Modes)

-- so many pairs fill an access list (this model's choice)
abbrev pub most_entries : ℕ
most_entries = 64

-- what is true of every access list: no identifier stands twice, and there are no more pairs than that
pub record IsAccess (entries : List (PlainAclId × Modes)) : Type 0 where
  pub in_order : T (is_sorted id_cmp entries)
  pub within : length entries ≤ most_entries

-- two equal identifiers
abbrev pub same_id : PlainAclId → PlainAclId → Bool
same_id x y = eq_by_cmp id_cmp x y

-- the modes that stand with an identifier
abbrev pub entry_of : Access → PlainAclId → Option Modes
entry_of acl id = find id_cmp id acl.entries

-- the set with this pair, in place of one with the same identifier
abbrev pub with_entry : Access → PlainAclId → Modes → Access
with_entry acl id modes = record acl { entries = put id_cmp id modes acl.entries }

-- the set without the pair of this identifier
abbrev pub without_entry : Access → PlainAclId → Access
without_entry acl id = record acl { entries = where_key id_cmp (λ other. not (same_id id other)) acl.entries }

-- modes of the other kind, or m without s, are invalid; as many pairs as the limit fill a list for a new identifier
abbrev pub fault_within : ℕ → Access → PlainAclId → Modes → Option AclError
fault_within limit acl id modes =
    if not (suits acl.kind modes) then Some InvalidMode
    else (if is_none (entry_of acl id) && nat_le limit (length acl.entries) then Some Full else None)

-- why an entry of an access list is not set
abbrev pub set_fault : Access → PlainAclId → Modes → Option AclError
set_fault acl id modes = fault_within most_entries acl id modes

-- the one of lesser rank; no two pairs that match one principal have equal rank
abbrev pub lesser : PlainAclId × Modes → Option (PlainAclId × Modes) → PlainAclId × Modes
lesser pair None = pair
lesser pair (Some other) = if nat_lt (id_rank other.0) (id_rank pair.0) then other else pair

-- the pair of least rank among those that match
abbrev pub deciding : PlainPrincipal → List (PlainAclId × Modes) → Option (PlainAclId × Modes)
deciding who [] = None
deciding who (pair ∷ pairs) =
    if id_matches pair.0 who then Some (lesser pair (deciding who pairs)) else deciding who pairs

-- its modes decide; null where no pair matches
abbrev pub modes_for : Access → PlainPrincipal → Modes
modes_for acl who = unwrap_or (option_map (λ pair. pair.1) (deciding who acl.entries)) Null
