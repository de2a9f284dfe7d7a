-- The hierarchy as plain lists: the root directory, the branches in the order of their making, and the object maps.
use Rattle.std.specs.Prelude.{ℕ, ◌==◌, ◌&&◌, List, filter, find, Option, Some, None, if◌then◌else◌}
use Rattle.std.specs.Cmp.Lexicographic.{pointwise}
use Rattle.std.specs.Option.{option_map, option_and_then}
use Rattle.mx_object.specs.Objects.{PlainObjectMap}
use Rattle.mx_pages.specs.Runs.{PageMap}
use Rattle.mx_hier.specs.declared.branches.Branch.{Branch}
use Rattle.mx_hier.specs.declared.branches.Directory.{Directory}
use Rattle.mx_hier.specs.declared.branches.Segment.{Segment}
use Rattle.mx_hier.specs.declared.branches.Node.{Node}
use Rattle.mx_hier.specs.declared.branches.Node.TheVariants.{Directory as IsDirectory, Segment as IsSegment, Link as IsLink}
use Rattle.mx_hier.specs.Objects.{Objects, object_of}

-- The root directory has uid 0 and is no branch. The uids of branches count from 1 in the order of their making, and
-- none is used again: a segment that is not among the branches any more was deleted.
pub record Hierarchy : Type 0 where
  pub root : Directory
  pub branches : List Branch
  pub next : ℕ
  pub pages : PageMap
  pub objects : Objects

-- the branch of a uid
abbrev pub branch_of : List Branch → ℕ → Option Branch
branch_of branches uid = find (λ branch. branch.uid == uid) branches

-- the entries of a directory
abbrev pub entries_of : List Branch → ℕ → List Branch
entries_of branches dir = filter (λ branch. branch.parent == dir) branches

-- the entry of this name in a directory
abbrev pub entry_in : List Branch → ℕ → List ℕ → Option Branch
entry_in branches dir name = find (λ branch. branch.parent == dir && pointwise ◌==◌ branch.name name) branches

-- and its uid
abbrev pub uid_in : List Branch → ℕ → List ℕ → Option ℕ
uid_in branches dir name = option_map (λ branch. branch.uid) (entry_in branches dir name)

abbrev pub as_directory : Node → Option Directory
as_directory (IsDirectory directory) = Some directory
as_directory _ = None

abbrev pub as_segment : Node → Option Segment
as_segment (IsSegment segment) = Some segment
as_segment _ = None

abbrev pub as_link : Node → Option (List (List ℕ))
as_link (IsLink target) = Some target
as_link _ = None

-- the directory, the segment and the link's target that a uid stands for
abbrev pub directory_at : Hierarchy → ℕ → Option Directory
directory_at hierarchy uid =
    if uid == 0 then Some hierarchy.root else option_and_then (λ branch. as_directory branch.node) (branch_of hierarchy.branches uid)

abbrev pub segment_in : List Branch → ℕ → Option Segment
segment_in branches uid = option_and_then (λ branch. as_segment branch.node) (branch_of branches uid)

abbrev pub segment_at : Hierarchy → ℕ → Option Segment
segment_at hierarchy uid = segment_in hierarchy.branches uid

abbrev pub target_at : Hierarchy → ℕ → Option (List (List ℕ))
target_at hierarchy uid = option_and_then (λ branch. as_link branch.node) (branch_of hierarchy.branches uid)

-- the map of an object segment, of a deleted one too
abbrev pub object_at : Hierarchy → ℕ → Option PlainObjectMap
object_at hierarchy uid = object_of hierarchy.objects uid

-- the uid of the directory that holds an entry: the root is its own
abbrev pub holder : Hierarchy → ℕ → Option ℕ
holder hierarchy uid = if uid == 0 then Some 0 else option_map (λ branch. branch.parent) (branch_of hierarchy.branches uid)

-- and that directory
abbrev pub holding : Hierarchy → ℕ → Option Directory
holding hierarchy uid = option_and_then (directory_at hierarchy) (holder hierarchy uid)
