-- `set_acl PATH ID MODES`
use Rattle.std.specs.Prelude.{ℕ, nat_le, Bool, true, ◌&&◌, not, List, [], ◌∷◌, ◌++◌, length, Result, is_none}
use Rattle.mx_name.specs.Identifiers.{PlainAclId}
use Rattle.mx_acl.specs.Access.{Access, most_entries, entry_of, with_entry}
use Rattle.mx_acl.specs.Modes.{suits}
use Rattle.mx_acl.specs.declared.modes.Modes.{Modes}
use Rattle.mx_hier.specs.declared.refusals.Refusal.{Refusal}
use Rattle.mx_hier.specs.declared.refusals.Refusal.TheVariants.{InvalidMode, AclFull}
use Rattle.mx_hier.specs.Branches.{Hierarchy}
use Rattle.mx_hier.specs.Callers.{Subject, Caller, on}
use Rattle.mx_hier.specs.Changing.{changing_refusals, acl_at, with_acl}
use Rattle.mx_hier.specs.Rules.{first_of, onward, unless}
use Rattle.mx_hier.specs.Walks.{entry}

-- so many pairs, and none of this identifier
abbrev pub is_full : ℕ → PlainAclId → Access → Bool
is_full limit id acl = is_none (entry_of acl id) && nat_le limit (length acl.entries)

abbrev pub set_acl_refusals : Hierarchy → Subject → ℕ → PlainAclId → Modes → List (Bool × Refusal)
set_acl_refusals hierarchy who uid id modes = changing_refusals hierarchy who uid ++
    (on (λ acl. not (suits acl.kind modes)) (acl_at hierarchy uid), InvalidMode)
    ∷ (on (is_full most_entries id) (acl_at hierarchy uid), AclFull) ∷ []

-- the entry ID has MODES, replaced or added
abbrev pub set_acl_at : Hierarchy → Subject → ℕ → PlainAclId → Modes → Result Hierarchy Refusal
set_acl_at hierarchy who uid id modes =
    unless (first_of (set_acl_refusals hierarchy who uid id modes)) (with_acl hierarchy uid (λ acl. with_entry acl id modes))

abbrev pub set_acl : Hierarchy → Caller → List ℕ → PlainAclId → Modes → Result Hierarchy Refusal
set_acl hierarchy who path id modes = onward (entry hierarchy who path true) (λ uid. set_acl_at hierarchy who.subject uid id modes)
