-- Making an entry: what `create_dir`, `create_seg` and `create_link` have in common.
use Rattle.std.specs.Prelude.{ℕ, ◌+◌, ◌-◌, nat_le, Bool, true, not, List, [], ◌∷◌, ◌++◌, length, take, slice_get, Option, Result, Ok, is_none, is_some}
use Rattle.mx_name.specs.Identifiers.{maker_id}
use Rattle.mx_acl.specs.Access.{Access}
use Rattle.mx_acl.specs.InitialLists.{acl_for}
use Rattle.mx_acl.specs.declared.modes.Modes.{Modes}
use Rattle.mx_hier.specs.declared.branches.Directory.{Directory}
use Rattle.mx_hier.specs.declared.branches.Node.{Node}
use Rattle.mx_hier.specs.declared.making.Place.{Place}
use Rattle.mx_hier.specs.declared.refusals.Refusal.{Refusal}
use Rattle.mx_hier.specs.declared.refusals.Refusal.TheVariants.{NotADir, IncorrectAccess, NameDup, DirFull}
use Rattle.mx_hier.specs.Branches.{Hierarchy, entries_of, uid_in, directory_at, holding}
use Rattle.mx_hier.specs.Callers.{Subject, has_append, on}
use Rattle.mx_hier.specs.Rules.{first_of, say, required, onward, unless}
use Rattle.mx_hier.specs.Walks.{reached}

-- The names of a path but its last, which lead to the parent directory, and the last: the root's path has none.
abbrev pub parent_path : List (List ℕ) → List (List ℕ)
parent_path path = take (length path - 1) path

abbrev pub last_name : List (List ℕ) → Option (List ℕ)
last_name path = slice_get path (length path - 1)

-- where an entry of this path is to be made, links followed: the root is there already
abbrev pub place : Hierarchy → Subject → List (List ℕ) → Result Place Refusal
place hierarchy who path =
    onward (required NameDup (last_name path)) (λ name.
    onward (reached hierarchy who true (parent_path path)) (λ dir. Ok (record { dir = dir; name = name })))

-- a directory has the name already, or is full
abbrev pub entry_refusals : Hierarchy → Place → List (Bool × Refusal)
entry_refusals hierarchy at =
    (is_some (uid_in hierarchy.branches at.dir at.name), NameDup)
    ∷ (nat_le 256 (length (entries_of hierarchy.branches at.dir)), DirFull) ∷ []

-- the first refusals of every request that makes an entry, in order
abbrev pub making_refusals : Hierarchy → Subject → Place → List (Bool × Refusal)
making_refusals hierarchy who at =
    (is_none (directory_at hierarchy at.dir), say who NotADir (holding hierarchy at.dir))
    ∷ (not (on (has_append who) (directory_at hierarchy at.dir)), say who IncorrectAccess (directory_at hierarchy at.dir))
    ∷ (is_some (uid_in hierarchy.branches at.dir at.name), NameDup)
    ∷ (nat_le 256 (length (entries_of hierarchy.branches at.dir)), DirFull) ∷ []

-- what is made at a place in its directory, unless one of these refusals applies
abbrev pub made : Hierarchy → Place → List (Bool × Refusal) → (Directory → Result Hierarchy Refusal)
    → Result Hierarchy Refusal
made hierarchy at refusals make =
    onward (unless (first_of refusals) at) (λ at. onward (required NotADir (directory_at hierarchy at.dir)) make)

-- a new branch gets the next uid
abbrev pub added : Hierarchy → Place → Node → Hierarchy
added hierarchy at node = record hierarchy {
  branches = hierarchy.branches ++ record { uid = hierarchy.next; parent = at.dir; name = at.name; node = node } ∷ [];
  next = 1 + hierarchy.next;
}

-- an entry that nothing refuses but what refuses every making
abbrev pub created_at : Hierarchy → Subject → Place → Node → Result Hierarchy Refusal
created_at hierarchy who at node = made hierarchy at (making_refusals hierarchy who at) (λ parent. Ok (added hierarchy at node))

-- its access list: what its directory gives, and the entry `Person.Project.*` of its maker, which comes last and so
-- replaces one of the same identifier
abbrev pub first_acl : Access → Subject → Modes → Access
first_acl given who modes = acl_for given (maker_id who.principal) modes
