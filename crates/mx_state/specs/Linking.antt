-- Where a link of a process leads: what each search rule finds for it, and the object map of what is found.
use Rattle.std.specs.Prelude.{ℕ, nat_lt, List, Option, Some, None, Result, is_some, if◌then◌else◌}
use Rattle.std.specs.Option.{option_map, option_and_then}
use Rattle.mx_hier.specs.Branches.{Hierarchy, segment_at, object_at, holder}
use Rattle.mx_hier.specs.Callers.{Subject}
use Rattle.mx_hier.specs.Find.{find_in, find_at}
use Rattle.mx_kst.specs.KnownSegments.{KnownSegments}
use Rattle.mx_kst.specs.Names.{named}
use Rattle.mx_kst.specs.declared.lots.Lot.{Lot}
use Rattle.mx_kst.specs.declared.lots.Lot.TheVariants.{Free, Stack, Branch, Linkage}
use Rattle.mx_link.specs.Targets.{target}
use Rattle.mx_link.specs.declared.resolving.LinkError.{LinkError}
use Rattle.mx_link.specs.declared.resolving.Target.{Target}
use Rattle.mx_object.specs.Objects.{PlainObjectMap, link_of}
use Rattle.mx_search.specs.declared.rules.Rule.{Rule}
use Rattle.mx_search.specs.declared.rules.Rule.TheVariants.{InitiatedSegments, ReferencingDir, WorkingDir, Directory}
use Rattle.mx_search.specs.declared.searching.Found.{Found}
use Rattle.mx_search.specs.declared.searching.Found.TheVariants as found
use Rattle.mx_state.specs.Askers.{caller}
use Rattle.mx_state.specs.Numbers.{stands_for}
use Rattle.mx_state.specs.declared.linking.Link.{Link}
use Rattle.mx_state.specs.declared.states.ProcessState.{ProcessState}

-- the uid of a segment of the hierarchy that a number stands for
abbrev pub uid_of : Lot → Option ℕ
uid_of Free = None
uid_of (Stack ring) = None
uid_of (Branch uid) = Some uid
uid_of (Linkage of page brackets words) = None

abbrev pub known_uid : KnownSegments → ℕ → Option ℕ
known_uid known segno = uid_of (stands_for known segno)

-- one that was deleted is passed over
abbrev pub standing : Hierarchy → KnownSegments → ℕ → Option Found
standing hierarchy known segno =
    if is_some (option_and_then (segment_at hierarchy) (known_uid known segno)) then Some (found.Known segno) else None

abbrev pub branch_found : Option ℕ → Option Found
branch_found uid = option_map found.Branch uid

-- a segment with this reference name in the ring
abbrev pub initiated_finds : Hierarchy → ProcessState → ℕ → List ℕ → Option Found
initiated_finds hierarchy process ring name = option_and_then (standing hierarchy process.known) (named process.known.names ring name)

-- one of this name in the directory that holds the object of this uid now
abbrev pub referencing_dir_finds : Hierarchy → Subject → ℕ → List ℕ → Option Found
referencing_dir_finds hierarchy who object name =
    branch_found (option_and_then (λ dir. find_in hierarchy who dir name) (holder hierarchy object))

-- What a rule finds under a name, for a process in a ring, where the link is one of the object of this uid: in a
-- directory links are followed, and what is found is a segment to which some access is left.
abbrev pub rule_finds : Hierarchy → ProcessState → ℕ → ℕ → Rule → List ℕ → Option Found
rule_finds hierarchy process ring object InitiatedSegments name = initiated_finds hierarchy process ring name
rule_finds hierarchy process ring object ReferencingDir name =
    referencing_dir_finds hierarchy (caller process ring).subject object name
rule_finds hierarchy process ring object WorkingDir name =
    branch_found (find_at hierarchy (caller process ring).subject process.working_directory name)
rule_finds hierarchy process ring object (Directory path) name =
    branch_found (find_at hierarchy (caller process ring).subject path name)

-- the uid of what is found
abbrev pub found_uid : KnownSegments → Found → Option ℕ
found_uid known (found.Known segno) = known_uid known segno
found_uid known (found.Branch uid) = Some uid

-- and its object map
abbrev pub found_object : Hierarchy → KnownSegments → Found → Option PlainObjectMap
found_object hierarchy known it = option_and_then (object_at hierarchy) (found_uid known it)

-- a link of an object, and the names of its segment and its symbol
abbrev pub link_names : ℕ → Option (List ℕ × List ℕ) → Option Link
link_names object None = None
link_names object (Some names) = Some (record { object = object; segment = names.0; symbol = names.1 })

abbrev pub link_by : Hierarchy → ℕ → Option ℕ → Option Link
link_by hierarchy word None = None
link_by hierarchy word (Some object) =
    link_names object (option_and_then (λ object_map. link_of object_map word) (object_at hierarchy object))

abbrev pub link_in : Hierarchy → KnownSegments → ℕ → Lot → Option Link
link_in hierarchy known word Free = None
link_in hierarchy known word (Stack ring) = None
link_in hierarchy known word (Branch uid) = None
link_in hierarchy known word (Linkage of page brackets words) =
    if nat_lt word words then link_by hierarchy word (known_uid known of) else None

-- The link of a word of a linkage section. None where the number is not that of a linkage section, or the word not below
-- its number of links. The object may have been deleted: its map stands.
abbrev pub link_at : Hierarchy → KnownSegments → ℕ → ℕ → Option Link
link_at hierarchy known segno word = link_in hierarchy known word (stands_for known segno)

-- where the link leads, by the search rules of the process
abbrev pub link_target : Hierarchy → ProcessState → ℕ → Link → Result Target LinkError
link_target hierarchy process ring link =
    target (rule_finds hierarchy process ring link.object) (found_object hierarchy process.known) process.rules link.segment link.symbol
