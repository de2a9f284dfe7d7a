-- Helpers that only private contracts cite: what a process knows after its table was asked, and where a link leads.
use Rattle.std.specs.Prelude.{◌≡◌, ℕ, List, Option, Some, None, Result, Ok, Err, length, slice_set}
use Rattle.std.specs.List.{All}
use Rattle.mx_hier.specs.Branches.{Hierarchy}
use Rattle.mx_hier.specs.Rules.{first_of, unless}
use Rattle.mx_hier.specs.declared.refusals.HierError.{HierError}
use Rattle.mx_hier.specs.declared.refusals.HierError.TheVariants as given
use Rattle.mx_hier.specs.declared.refusals.Refusal.{Refusal}
use Rattle.mx_hier.specs.declared.refusals.Refusal.TheVariants as refusal
use Rattle.mx_kst.specs.KnownSegments.{KnownSegments}
use Rattle.mx_kst.specs.Sections.{PlainSection}
use Rattle.mx_link.specs.declared.resolving.LinkError.{LinkError}
use Rattle.mx_link.specs.declared.resolving.LinkError.TheVariants.{SegmentNotFound, NotObject, NoDefinition, Memory}
use Rattle.mx_link.specs.declared.resolving.Target.{Target}
use Rattle.mx_request.specs.Versions.{last_number}
use Rattle.mx_state.specs.declared.knowing.Connection.{Connection}
use Rattle.mx_state.specs.declared.linking.Link.{Link}
use Rattle.mx_state.specs.declared.linking.Place.{Place}
use Rattle.mx_state.specs.declared.states.ProcessState.{ProcessState}
use Rattle.mx_state.specs.Changes.{AreChanges, IsBounded}
use Rattle.mx_state.specs.Connecting.{Connected, connect_refusals}
use Rattle.mx_state.specs.Knowing.{knowing_more}
use Rattle.mx_state.specs.Linking.{found_uid, link_target}
use Rattle.mx_state.specs.NextRun.{IsNext}
use Rattle.mx_state.specs.Plain.{Plain}
use Rattle.mx_state.specs.Sections.{section_made}

-- the processes, of which one knows this
abbrev pub knowing : List ProcessState → ℕ → ProcessState → KnownSegments → List ProcessState
knowing processes i process known = slice_set processes i (record process { known = known })

-- the linkage section that is to be made of a segment, unless it is refused that the segment becomes known
abbrev pub section_or_refusal : Hierarchy → KnownSegments → ℕ → ℕ → Option (List ℕ)
    → Result (Option PlainSection) Refusal
section_or_refusal h known uid ring name =
    unless (first_of (connect_refusals h known uid ring name)) (section_made h known uid)

-- a segment became known to process p as it is meant, and the descriptors are told that this changed, and the run of
-- pages that was given out
pub record IsConnected (old new : Plain) (p : ℕ) (process : ProcessState) (meant : Result Connected Refusal)
    (connection : Connection) : Type 0 where
  pub after : Connected
  pub as_meant : meant ≡ Ok after
  pub known : connection.known ≡ after.known
  pub state : new ≡ knowing_more old p process after
  pub changes : AreChanges old new connection.changes
  pub given : IsNext old.hierarchy.pages new.hierarchy.pages connection.given
  pub bounded : All (IsBounded (last_number old.version)) connection.changes
  pub count : length new.processes ≡ length old.processes

-- or was refused as is meant
abbrev pub Connects : Plain → Plain → ℕ → ProcessState → Result Connected Refusal → Result Connection Refusal
    → Type 0
Connects old new p process meant (Ok connection) = IsConnected old new p process meant connection
Connects old new p process meant (Err why) = (meant ≡ Err why) × (new ≡ old)

-- why a link leads nowhere; want of memory is no refusal
abbrev pub link_refusal : LinkError → Option Refusal
link_refusal SegmentNotFound = Some refusal.SegmentNotFound
link_refusal NotObject = Some refusal.NotObject
link_refusal NoDefinition = Some refusal.NoDefinition
link_refusal Memory = None

-- where a link leads, or why it leads nowhere, as it is meant
abbrev pub Leads : Hierarchy → ProcessState → ℕ → Link → Result Place HierError → Type 0
Leads h process ring link (Ok place) =
    (to : Target) × (link_target h process ring link ≡ Ok to)
    × (found_uid process.known to.found ≡ Some place.uid) × (place.word ≡ to.word)
Leads h process ring link (Err (given.Refused why)) =
    (error : LinkError) × (link_target h process ring link ≡ Err error) × (link_refusal error ≡ Some why)
Leads h process ring link (Err given.Memory) = Unit {0}

-- what is told of a link that leads nowhere; want of memory is told as that
abbrev pub link_error : LinkError → HierError
link_error SegmentNotFound = given.Refused refusal.SegmentNotFound
link_error NotObject = given.Refused refusal.NotObject
link_error NoDefinition = given.Refused refusal.NoDefinition
link_error Memory = given.Memory

-- the place of a target, or why there is none, is told as it was found, and never as anything else
abbrev pub IsToldAt : KnownSegments → Result Target LinkError → Result Place HierError → Type 0
IsToldAt known (Ok to) result =
    (place : Place) × (result ≡ Ok place) × (found_uid known to.found ≡ Some place.uid) × (place.word ≡ to.word)
IsToldAt known (Err error) result = result ≡ Err (link_error error)
