-- Revocation, in a legal run: where an entry took an access, each reference that its process makes after it was told of
-- that entry is denied, until an entry gives the access again. A process is told of an entry by one of its own at or
-- after it, by a word that was stored at or after it, by a miss, or by a reference of its own at such a point.
use Rattle.std.specs.Prelude.{◌≡◌, ◌⊎◌, ℕ, ◌<◌, ◌≤◌, List, Some, slice_get}
use Rattle.mx_core.specs.declared.elements.Element.{Element}
use Rattle.mx_core.specs.declared.elements.Event.TheVariants.{Seen, Missing}
use Rattle.mx_core.specs.declared.elements.Outcome.{Outcome}
use Rattle.mx_core.specs.declared.elements.Outcome.TheVariants.{Read, Written, Entered, Denied}
use Rattle.mx_sdw.specs.Descriptors.{Descriptor}
use Rattle.mx_sdw.specs.Granting.{IsGranted}
use Rattle.mx_sdw.specs.declared.denials.Denial.{Denial}
use Rattle.mx_sdw.specs.declared.operations.Op.{Op}
use Rattle.mx_script.specs.Sessions.{Outline}
use Rattle.mx_state.specs.declared.journal.Entry as journaled
use Rattle.mx_transcript.specs.Access.{descriptor_at}
use Rattle.mx_transcript.specs.Elements.{kind_of}
use Rattle.mx_transcript.specs.Legal.{IsLegal}
use Rattle.mx_transcript.specs.Misses.{IsChanged}
use Rattle.mx_transcript.specs.Transcripts.{Step, part, events_of}
use Rattle.mx_transcript.specs.declared.transcripts.Event2.{Event2}
use Rattle.mx_transcript.specs.declared.transcripts.Event2.TheVariants.{Core, Entry}

-- a word whose store was made at or after entry q
abbrev pub IsStamped : ℕ → Outcome → Type 0
IsStamped q (Read value writer stamp) = q ≤ stamp
IsStamped q (Written value) = ⊥
IsStamped q (Entered ring) = ⊥
IsStamped q (Denied denial) = ⊥

-- an event by which a process is told of entry q
abbrev pub Tells : ℕ → Event2 → Type 0
Tells q (Entry number) = q ≤ number
Tells q (Core (Missing segno by)) = q ≤ by
Tells q (Core (Seen element)) = IsStamped q element.outcome ⊎ (q ≤ element.point)

-- before this place of its events a process was told of entry q
pub record WasTold (events : List Event2) (place q : ℕ) : Type 0 where
  pub before : ℕ
  pub earlier : before < place
  pub event : Event2
  pub at : slice_get events before ≡ Some event
  pub tells : Tells q event

-- on this descriptor no operation is granted that is printed like this reference
abbrev pub Denies : Descriptor → Element → Type 0
Denies d element = (op : Op) → kind_of op ≡ element.kind → IsGranted d op element.ring element.word → ⊥

pub record IsDenied (element : Element) : Type 0 where
  pub denial : Denial
  pub denied : element.outcome ≡ Denied denial

-- after entry q the descriptor of the reference's number denies it, and no entry behind q, up to the reference's point,
-- changed that descriptor
pub record IsRevoked (session : Outline) (journal : List journaled.Entry) (p : ℕ) (element : Element) (q : ℕ) : Type 0 where
  pub taken : Denies (descriptor_at session journal q p element.segno) element
  pub left : (by : ℕ) → q < by → by ≤ element.point → IsChanged session journal p element.segno by → ⊥

-- a reference of a process that was told of an entry is not judged before that entry
abbrev pub ToldLaw : Type 0
ToldLaw = (session : Outline) (journal : List journaled.Entry) (transcripts : List (List Step))
    → IsLegal session journal transcripts
    → (p place q : ℕ) (element : Element) → slice_get (events_of (part transcripts p)) place ≡ Some (Core (Seen element))
    → WasTold (events_of (part transcripts p)) place q → q ≤ element.point

-- so it is denied where every descriptor from that entry on, up to the reference's point, denies it
abbrev pub DeniedLaw : Type 0
DeniedLaw = (session : Outline) (journal : List journaled.Entry) (transcripts : List (List Step))
    → IsLegal session journal transcripts
    → (p place q : ℕ) (element : Element) → slice_get (events_of (part transcripts p)) place ≡ Some (Core (Seen element))
    → WasTold (events_of (part transcripts p)) place q
    → ((point : ℕ) → q ≤ point → point ≤ element.point → Denies (descriptor_at session journal point p element.segno) element)
    → IsDenied element

-- as where the entry took the access, and none gave it again
abbrev pub RevocationLaw : Type 0
RevocationLaw = (session : Outline) (journal : List journaled.Entry) (transcripts : List (List Step))
    → IsLegal session journal transcripts
    → (p place q : ℕ) (element : Element) → slice_get (events_of (part transcripts p)) place ≡ Some (Core (Seen element))
    → WasTold (events_of (part transcripts p)) place q
    → IsRevoked session journal p element q
    → IsDenied element
