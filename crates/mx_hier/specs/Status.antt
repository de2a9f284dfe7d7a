-- `status PATH`: what is said of an entry, of a link itself
use Rattle.std.specs.Prelude.{ℕ, ◌==◌, Bool, false, not, List, [], ◌∷◌, length, Option, Some, None, Result, Ok, if◌then◌else◌}
use Rattle.std.specs.Option.{option_map}
use Rattle.mx_acl.specs.Access.{modes_for}
use Rattle.mx_object.specs.Objects.{PlainObjectMap}
use Rattle.mx_hier.specs.declared.branches.Directory.{Directory}
use Rattle.mx_hier.specs.declared.branches.Segment.{Segment}
use Rattle.mx_hier.specs.declared.branches.Node.{Node}
use Rattle.mx_hier.specs.declared.branches.Node.TheVariants.{Directory as IsDirectory, Segment as IsSegment, Link as IsLink}
use Rattle.mx_hier.specs.declared.asking.Status.{Status}
use Rattle.mx_hier.specs.declared.asking.Status.TheVariants.{Segment as SegmentStatus, Object as ObjectStatus, Directory as DirectoryStatus, Link as LinkStatus}
use Rattle.mx_hier.specs.declared.refusals.Refusal.{Refusal}
use Rattle.mx_hier.specs.declared.refusals.Refusal.TheVariants.{NoInfo}
use Rattle.mx_hier.specs.Branches.{Hierarchy, branch_of, object_at, holding}
use Rattle.mx_hier.specs.Callers.{Subject, Caller, has_status, on}
use Rattle.mx_hier.specs.Rules.{first_of, required, onward, unless}
use Rattle.mx_hier.specs.Walks.{entry}

abbrev pub directory_status : Subject → Directory → Status
directory_status who directory =
    DirectoryStatus directory.d1 directory.d2 (modes_for directory.acl who.principal)

-- of a segment, with its class; of an object segment also its gates, and how many definitions and links it has
abbrev pub segment_status : Subject → Segment → Option PlainObjectMap → Status
segment_status who segment None =
    SegmentStatus segment.words segment.brackets (modes_for segment.acl who.principal) (Some segment.class)
segment_status who segment (Some object) =
    ObjectStatus segment.words segment.brackets
    object.gate (length object.definitions) (length object.links) (modes_for segment.acl who.principal)
    (Some segment.class)

-- the modes are those that its access list gives the caller, in any ring
abbrev pub status_of : Subject → Option PlainObjectMap → Node → Status
status_of who object (IsDirectory directory) = directory_status who directory
status_of who object (IsSegment segment) = segment_status who segment object
status_of who object (IsLink target) = LinkStatus target

-- what stands at a uid
abbrev pub node_at : Hierarchy → ℕ → Option Node
node_at hierarchy uid =
    if uid == 0 then Some (IsDirectory hierarchy.root) else option_map (λ branch. branch.node) (branch_of hierarchy.branches uid)

abbrev pub status_refusals : Hierarchy → Subject → ℕ → List (Bool × Refusal)
status_refusals hierarchy who uid = (not (on (has_status who) (holding hierarchy uid)), NoInfo) ∷ []

abbrev pub status_at : Hierarchy → Subject → ℕ → Result Status Refusal
status_at hierarchy who uid =
    onward (unless (first_of (status_refusals hierarchy who uid)) uid) (λ uid.
    onward (required NoInfo (node_at hierarchy uid)) (λ node. Ok (status_of who (object_at hierarchy uid) node)))

abbrev pub status : Hierarchy → Caller → List ℕ → Result Status Refusal
status hierarchy who path = onward (entry hierarchy who path false) (λ uid. status_at hierarchy who.subject uid)
