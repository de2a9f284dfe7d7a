-- `set_iacl_seg PATH ID MODES`, `set_iacl_dir PATH ID MODES`, `del_iacl_seg PATH ID` and `del_iacl_dir PATH ID`: the
-- initial access lists of a directory, by the kind of what is made in it
use Rattle.std.specs.Prelude.{ℕ, Bool, true, not, List, [], ◌∷◌, ◌++◌, Result, is_none}
use Rattle.mx_name.specs.Identifiers.{PlainAclId}
use Rattle.mx_acl.specs.Access.{Access, entry_of, with_entry, without_entry}
use Rattle.mx_acl.specs.InitialLists.{most_initial_entries}
use Rattle.mx_acl.specs.Modes.{suits}
use Rattle.mx_acl.specs.declared.modes.AclKind.{AclKind}
use Rattle.mx_acl.specs.declared.modes.Modes.{Modes}
use Rattle.mx_hier.specs.declared.branches.Directory.{Directory}
use Rattle.mx_hier.specs.declared.refusals.Refusal.{Refusal}
use Rattle.mx_hier.specs.declared.refusals.Refusal.TheVariants.{NotADir, IncorrectAccess, InvalidMode, AclFull, NoAclEntry}
use Rattle.mx_hier.specs.Branches.{Hierarchy, directory_at, holding}
use Rattle.mx_hier.specs.Callers.{Subject, Caller, has_modify, on}
use Rattle.mx_hier.specs.Changing.{with_directory}
use Rattle.mx_hier.specs.InitialAccess.{initial_for, with_initial_for}
use Rattle.mx_hier.specs.Rules.{first_of, say, onward, unless}
use Rattle.mx_hier.specs.SetAcl.{is_full}
use Rattle.mx_hier.specs.Walks.{entry}

-- m is asked on the directory itself; both refusals are said at its holder
abbrev pub initial_refusals : Hierarchy → Subject → ℕ → List (Bool × Refusal)
initial_refusals hierarchy who uid =
    (is_none (directory_at hierarchy uid), say who NotADir (holding hierarchy uid))
    ∷ (not (on (has_modify who) (directory_at hierarchy uid)), say who IncorrectAccess (holding hierarchy uid)) ∷ []

-- the hierarchy with the list for what is made of a kind changed
abbrev pub initial_changed : AclKind → (Access → Access) → Directory → Directory
initial_changed kind change directory = record directory { initial = with_initial_for kind change directory.initial }

abbrev pub with_initial : Hierarchy → ℕ → AclKind → (Access → Access) → Hierarchy
with_initial hierarchy uid kind change = with_directory hierarchy uid (initial_changed kind change)

abbrev pub set_iacl_refusals : Hierarchy → Subject → ℕ → AclKind → PlainAclId → Modes → List (Bool × Refusal)
set_iacl_refusals hierarchy who uid kind id modes = initial_refusals hierarchy who uid ++
    (on (λ directory. not (suits (initial_for kind directory.initial).kind modes)) (directory_at hierarchy uid), InvalidMode)
    ∷ (
      on (λ directory. is_full most_initial_entries id (initial_for kind directory.initial)) (directory_at hierarchy uid),
      AclFull,
    ) ∷ []

-- the entry ID has MODES, replaced or added
abbrev pub set_iacl_at : Hierarchy → Subject → ℕ → AclKind → PlainAclId → Modes → Result Hierarchy Refusal
set_iacl_at hierarchy who uid kind id modes =
    unless (first_of (set_iacl_refusals hierarchy who uid kind id modes))
    (with_initial hierarchy uid kind (λ initial. with_entry initial id modes))

abbrev pub set_iacl : Hierarchy → Caller → List ℕ → AclKind → PlainAclId → Modes → Result Hierarchy Refusal
set_iacl hierarchy who path kind id modes =
    onward (entry hierarchy who path true) (λ uid. set_iacl_at hierarchy who.subject uid kind id modes)

abbrev pub del_iacl_refusals : Hierarchy → Subject → ℕ → AclKind → PlainAclId → List (Bool × Refusal)
del_iacl_refusals hierarchy who uid kind id = initial_refusals hierarchy who uid ++
    (on (λ directory. is_none (entry_of (initial_for kind directory.initial) id)) (directory_at hierarchy uid), NoAclEntry) ∷ []

-- the entry ID is gone
abbrev pub del_iacl_at : Hierarchy → Subject → ℕ → AclKind → PlainAclId → Result Hierarchy Refusal
del_iacl_at hierarchy who uid kind id =
    unless (first_of (del_iacl_refusals hierarchy who uid kind id))
    (with_initial hierarchy uid kind (λ initial. without_entry initial id))

abbrev pub del_iacl : Hierarchy → Caller → List ℕ → AclKind → PlainAclId → Result Hierarchy Refusal
del_iacl hierarchy who path kind id = onward (entry hierarchy who path true) (λ uid. del_iacl_at hierarchy who.subject uid kind id)
