-- Changing an entry: what `set_acl`, `del_acl`, `set_brackets`, `set_dir_brackets`, `set_class`, `rename` and `delete`
-- have in common.
use Rattle.std.specs.Prelude.{ℕ, ◌==◌, Bool, not, List, [], ◌∷◌, map, Option, Some, None, if◌then◌else◌}
use Rattle.std.specs.Option.{option_and_then}
use Rattle.mx_acl.specs.Access.{Access}
use Rattle.mx_hier.specs.declared.branches.Branch.{Branch}
use Rattle.mx_hier.specs.declared.branches.Directory.{Directory}
use Rattle.mx_hier.specs.declared.branches.Segment.{Segment}
use Rattle.mx_hier.specs.declared.branches.Node.{Node}
use Rattle.mx_hier.specs.declared.branches.Node.TheVariants.{Directory as IsDirectory, Segment as IsSegment, Link as IsLink}
use Rattle.mx_hier.specs.declared.refusals.Refusal.{Refusal}
use Rattle.mx_hier.specs.declared.refusals.Refusal.TheVariants.{IncorrectAccess}
use Rattle.mx_hier.specs.Branches.{Hierarchy, branch_of, holding}
use Rattle.mx_hier.specs.Callers.{Subject, has_modify, on}
use Rattle.mx_hier.specs.Rules.{say}

-- the first refusal of every request that changes an entry
abbrev pub changing_refusals : Hierarchy → Subject → ℕ → List (Bool × Refusal)
changing_refusals hierarchy who uid = (not (on (has_modify who) (holding hierarchy uid)), say who IncorrectAccess (holding hierarchy uid)) ∷ []

-- the branches, one of them changed
abbrev pub changed : ℕ → (Branch → Branch) → List Branch → List Branch
changed uid change branches = map (λ branch. if branch.uid == uid then change branch else branch) branches

abbrev pub with_branch : Hierarchy → ℕ → (Branch → Branch) → Hierarchy
with_branch hierarchy uid change = record hierarchy { branches = changed uid change hierarchy.branches }

abbrev pub with_node : Node → Branch → Branch
with_node node branch = record branch { node = node }

-- the segment that stands at a uid changed, and the directory
abbrev pub segment_changed : (Segment → Segment) → Node → Node
segment_changed change (IsSegment segment) = IsSegment (change segment)
segment_changed change (IsDirectory directory) = IsDirectory directory
segment_changed change (IsLink target) = IsLink target

abbrev pub branch_with_segment : (Segment → Segment) → Branch → Branch
branch_with_segment change branch = with_node (segment_changed change branch.node) branch

abbrev pub with_segment : Hierarchy → ℕ → (Segment → Segment) → Hierarchy
with_segment hierarchy uid change = with_branch hierarchy uid (branch_with_segment change)

abbrev pub directory_changed : (Directory → Directory) → Node → Node
directory_changed change (IsDirectory directory) = IsDirectory (change directory)
directory_changed change (IsSegment segment) = IsSegment segment
directory_changed change (IsLink target) = IsLink target

abbrev pub branch_with_directory : (Directory → Directory) → Branch → Branch
branch_with_directory change branch = with_node (directory_changed change branch.node) branch

abbrev pub with_directory : Hierarchy → ℕ → (Directory → Directory) → Hierarchy
with_directory hierarchy uid change =
    if uid == 0 then record hierarchy { root = change hierarchy.root } else with_branch hierarchy uid (branch_with_directory change)

-- the access list of what stands at a uid: a link has none
abbrev pub acl_in : Node → Option Access
acl_in (IsDirectory directory) = Some directory.acl
acl_in (IsSegment segment) = Some segment.acl
acl_in (IsLink target) = None

abbrev pub acl_at : Hierarchy → ℕ → Option Access
acl_at hierarchy uid =
    if uid == 0 then Some hierarchy.root.acl else option_and_then (λ branch. acl_in branch.node) (branch_of hierarchy.branches uid)

-- and the hierarchy with that list changed
abbrev pub acl_changed : (Access → Access) → Node → Node
acl_changed change (IsDirectory directory) = IsDirectory (record directory { acl = change directory.acl })
acl_changed change (IsSegment segment) = IsSegment (record segment { acl = change segment.acl })
acl_changed change (IsLink target) = IsLink target

abbrev pub branch_with_acl : (Access → Access) → Branch → Branch
branch_with_acl change branch = with_node (acl_changed change branch.node) branch

abbrev pub with_acl : Hierarchy → ℕ → (Access → Access) → Hierarchy
with_acl hierarchy uid change =
    if uid == 0 then record hierarchy { root = record hierarchy.root { acl = change hierarchy.root.acl } } else with_branch hierarchy uid (branch_with_acl change)
