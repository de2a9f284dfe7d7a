-- `del_acl PATH ID`
use Rattle.std.specs.Prelude.{ℕ, Bool, true, List, [], ◌∷◌, ◌++◌, Result, is_none}
use Rattle.mx_name.specs.Identifiers.{PlainAclId}
use Rattle.mx_acl.specs.Access.{entry_of, without_entry}
use Rattle.mx_hier.specs.declared.refusals.Refusal.{Refusal}
use Rattle.mx_hier.specs.declared.refusals.Refusal.TheVariants.{NoAclEntry}
use Rattle.mx_hier.specs.Branches.{Hierarchy}
use Rattle.mx_hier.specs.Callers.{Subject, Caller, on}
use Rattle.mx_hier.specs.Changing.{changing_refusals, acl_at, with_acl}
use Rattle.mx_hier.specs.Rules.{first_of, onward, unless}
use Rattle.mx_hier.specs.Walks.{entry}

abbrev pub del_acl_refusals : Hierarchy → Subject → ℕ → PlainAclId → List (Bool × Refusal)
del_acl_refusals hierarchy who uid id = changing_refusals hierarchy who uid ++
    (on (λ acl. is_none (entry_of acl id)) (acl_at hierarchy uid), NoAclEntry) ∷ []

-- the entry ID is gone
abbrev pub del_acl_at : Hierarchy → Subject → ℕ → PlainAclId → Result Hierarchy Refusal
del_acl_at hierarchy who uid id =
    unless (first_of (del_acl_refusals hierarchy who uid id)) (with_acl hierarchy uid (λ acl. without_entry acl id))

abbrev pub del_acl : Hierarchy → Caller → List ℕ → PlainAclId → Result Hierarchy Refusal
del_acl hierarchy who path id = onward (entry hierarchy who path true) (λ uid. del_acl_at hierarchy who.subject uid id)
