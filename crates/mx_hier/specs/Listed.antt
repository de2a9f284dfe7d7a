-- Helpers: the branches with the next uid, as what finds them keeps them.
use Rattle.std.specs.Prelude.{◌≡◌, ℕ, ◌==◌, ◌+◌, ◌-◌, ◌<◌, Bool, not, List, [], ◌∷◌, ◌++◌, length, map, Option, Some, None, Result, Ok, Err, is_none, if◌then◌else◌}
use Rattle.std.specs.Cmp.Lexicographic.{pointwise}
use Rattle.std.specs.List.{slice_index_or, slice_set}
use Rattle.std.specs.Option.{IfSome, option_map, option_and_then}
use Rattle.std.specs.Map.{keys_of}
use Rattle.mx_name.specs.Identifiers.{PlainAclId}
use Rattle.mx_acl.specs.Access.{Access, most_entries, entry_of}
use Rattle.mx_acl.specs.InitialLists.{most_initial_entries, initial_fault}
use Rattle.mx_acl.specs.Modes.{suits}
use Rattle.mx_acl.specs.declared.modes.AclKind.{AclKind}
use Rattle.mx_acl.specs.declared.modes.Modes.{Modes}
use Rattle.mx_acl.specs.declared.lists.AclError.{AclError}
use Rattle.mx_acl.specs.declared.lists.AclError.TheVariants.{InvalidMode, Full, Memory}
use Rattle.mx_hier.specs.declared.branches.Branch.{Branch}
use Rattle.mx_hier.specs.declared.branches.Directory.{Directory}
use Rattle.mx_hier.specs.declared.branches.Node.{Node}
use Rattle.mx_hier.specs.declared.refusals.Refusal.{Refusal}
use Rattle.mx_hier.specs.declared.refusals.Refusal.TheVariants as refusal
use Rattle.mx_hier.specs.Branches.{branch_of, entries_of, as_directory}
use Rattle.mx_hier.specs.Callers.{on}
use Rattle.mx_hier.specs.Changing.{acl_in, changed}
use Rattle.mx_hier.specs.InitialAccess.{initial_for}
use Rattle.mx_hier.specs.List.{in_byte_order}
use Rattle.mx_hier.specs.SetAcl.{is_full}

pub record Listed : Type 0 where
  pub branches : List Branch
  pub next : ℕ

-- with one branch more, which gets the next uid; with one of them changed
abbrev pub listed_added : Listed → ℕ → List ℕ → Node → Listed
listed_added list dir name node = record {
  branches = list.branches ++ record { uid = list.next; parent = dir; name = name; node = node } ∷ [];
  next = 1 + list.next;
}

abbrev pub listed_changed : Listed → ℕ → (Branch → Branch) → Listed
listed_changed list uid f = record list { branches = changed uid f list.branches }

-- The slots of all uids from 1 on: a branch that was removed leaves an empty one.
abbrev pub present : List (Option Branch) → List Branch
present [] = []
present (None ∷ slots) = present slots
present (Some branch ∷ slots) = branch ∷ present slots

-- the slot of a uid
abbrev pub slot_of : List (Option Branch) → ℕ → Option Branch
slot_of slots uid = if uid == 0 then None else slice_index_or slots (uid - 1) None

-- the slots without the branch of a uid
abbrev pub emptied : List (Option Branch) → ℕ → List (Option Branch)
emptied slots uid = if uid == 0 then slots else slice_set slots (uid - 1) None

-- the slots with the branch of a uid changed
abbrev pub changed_at : List (Option Branch) → ℕ → (Branch → Branch) → List (Option Branch)
changed_at slots uid f =
    if uid == 0 then slots else slice_set slots (uid - 1) (option_map f (slice_index_or slots (uid - 1) None))

-- the access list of what a slot holds
abbrev pub acl_in_slot : Option Branch → Option Access
acl_in_slot slot = option_and_then (λ branch. acl_in branch.node) slot

-- and of what stands at a uid
abbrev pub acl_of : List Branch → ℕ → Option Access
acl_of branches uid = acl_in_slot (branch_of branches uid)

-- the directory that a slot holds
abbrev pub directory_in_slot : Option Branch → Option Directory
directory_in_slot slot = option_and_then (λ branch. as_directory branch.node) slot

-- and that stands at a uid
abbrev pub directory_of : List Branch → ℕ → Option Directory
directory_of branches uid = directory_in_slot (branch_of branches uid)

-- why an entry of its initial list for what is made of a kind is not set
abbrev pub iacl_fault : AclKind → PlainAclId → Modes → Option Directory → Option AclError
iacl_fault kind id modes directory =
    option_and_then (λ directory. initial_fault (initial_for kind directory.initial) id modes) directory

-- and whether that list lacks an entry
abbrev pub iacl_lacks : AclKind → PlainAclId → Option Directory → Bool
iacl_lacks kind id directory = on (λ directory. is_none (entry_of (initial_for kind directory.initial) id)) directory

-- An entry is set only where there is no fault, and refused only for its fault; memory may be wanting where there is
-- none.
abbrev pub AclAnswers : Option AclError → Result (Unit {0}) AclError → Type 0
AclAnswers fault (Ok done) = fault ≡ None
AclAnswers fault (Err InvalidMode) = fault ≡ Some InvalidMode
AclAnswers fault (Err Full) = fault ≡ Some Full
AclAnswers fault (Err Memory) = fault ≡ None

-- The same of the refusals of `set_acl` itself.
abbrev pub acl_refusals : PlainAclId → Modes → Option Access → List (Bool × Refusal)
acl_refusals id modes acl =
    (on (λ acl. not (suits acl.kind modes)) acl, refusal.InvalidMode)
    ∷ (on (is_full most_entries id) acl, refusal.AclFull) ∷ []

-- and of those of `set_iacl_seg` and `set_iacl_dir`
abbrev pub iacl_refusals : AclKind → PlainAclId → Modes → Option Directory → List (Bool × Refusal)
iacl_refusals kind id modes directory =
    (on (λ directory. not (suits (initial_for kind directory.initial).kind modes)) directory, refusal.InvalidMode)
    ∷ (
      on (λ directory. is_full most_initial_entries id (initial_for kind directory.initial)) directory,
      refusal.AclFull,
    ) ∷ []

abbrev pub AclTells : Option Refusal → Result (Unit {0}) AclError → Type 0
AclTells why (Ok done) = why ≡ None
AclTells why (Err InvalidMode) = why ≡ Some refusal.InvalidMode
AclTells why (Err Full) = why ≡ Some refusal.AclFull
AclTells why (Err Memory) = why ≡ None

-- each branch stands in the slot of its uid, and its directory was made before it
abbrev pub AreKeyed : ℕ → List (Option Branch) → Type 0
AreKeyed first [] = Unit {0}
AreKeyed first (None ∷ slots) = AreKeyed (1 + first) slots
AreKeyed first (Some branch ∷ slots) = (branch.uid ≡ first) × (branch.parent < first) × AreKeyed (1 + first) slots

-- the names in a directory, each with its uid
abbrev pub named : Branch → List ℕ × ℕ
named branch = (branch.name, branch.uid)

abbrev pub names_of : List Branch → ℕ → List (List ℕ × ℕ)
names_of branches dir = map named (entries_of branches dir)

-- what is kept for a directory: nothing where none is
abbrev pub kept_for : List (List (List ℕ × ℕ)) → ℕ → List (List ℕ × ℕ)
kept_for names dir = slice_index_or names dir []

-- a branch with another name
abbrev pub with_name : List ℕ → Branch → Branch
with_name name branch = record branch { name = name }

-- the names with another in the place of one
abbrev pub renamed : List ℕ → List ℕ → List (List ℕ × ℕ) → List (List ℕ × ℕ)
renamed old new [] = []
renamed old new (pair ∷ pairs) =
    if pointwise ◌==◌ old pair.0 then (new, pair.1) ∷ pairs else pair ∷ renamed old new pairs

-- The names in a directory stand in byte order, and so do those that were given last, if they are kept.
pub record AreInOrder (pairs : List (List ℕ × ℕ)) (sorted : List (List ℕ)) (listed : Option (List (List ℕ))) : Type 0 where
  pub order : sorted ≡ in_byte_order (keys_of pairs)
  pub given : IfSome listed (λ names. names ≡ in_byte_order (keys_of pairs))

-- For every directory its names are kept, and there is room for those of the next one.
pub record AreKept (slots : List (Option Branch)) (names : List (List (List ℕ × ℕ))) : Type 0 where
  pub keyed : AreKeyed 1 slots
  pub same : (dir : ℕ) → kept_for names dir ≡ names_of (present slots) dir
  pub room : length slots < length names
