-- Integrity, in a legal run: a word changes only by a write that was granted, at a ring within the write bracket, by a
-- process whose deciding entry has w, each at the write's printed point; and whatever value is read was written so.
use Rattle.std.specs.Prelude.{◌≡◌, ◌⊎◌, ℕ, List, Some, slice_get}
use Rattle.mx_acl.specs.Modes.{has_w}
use Rattle.mx_core.specs.declared.elements.Element.{Element}
use Rattle.mx_core.specs.declared.elements.Event.TheVariants.{Seen}
use Rattle.mx_core.specs.declared.elements.Kind.TheVariants.{Write}
use Rattle.mx_core.specs.declared.elements.Outcome.TheVariants.{Read, Written}
use Rattle.mx_sdw.specs.Granting.{CanWrite}
use Rattle.mx_script.specs.Sessions.{Outline}
use Rattle.mx_state.specs.declared.journal.Entry as journaled
use Rattle.mx_reads.specs.Deeds.{CellUse}
use Rattle.mx_reads.specs.Sightings.{HasStored}
use Rattle.mx_transcript.specs.Grants.{HadAccess, cell_referred}
use Rattle.mx_transcript.specs.Legal.{IsLegal, deeds}
use Rattle.mx_transcript.specs.Transcripts.{Step, part, events_of}
use Rattle.mx_transcript.specs.declared.transcripts.Event2.TheVariants.{Core}

-- this element of process u is a granted write, of this value into this cell at this point
pub record IsGrantedWrite (session : Outline) (journal : List journaled.Entry) (u : ℕ) (write : Element)
    (cell : CellUse) (value point : ℕ) : Type 0 where
  pub kind : write.kind ≡ Write
  pub written : write.outcome ≡ Written value
  pub into : cell_referred session journal u write ≡ cell
  pub at : write.point ≡ point
  pub access : HadAccess session journal u write CanWrite has_w

-- each store is one, printed at its place
abbrev pub GrantedStoresLaw : Type 0
GrantedStoresLaw = (session : Outline) (journal : List journaled.Entry) (transcripts : List (List Step))
    → IsLegal session journal transcripts
    → (u place : ℕ) (cell : CellUse) (value point : ℕ)
    → HasStored (deeds session journal transcripts) u place cell value point
    → (write : Element) × (slice_get (events_of (part transcripts u)) place ≡ Some (Core (Seen write)))
    × IsGrantedWrite session journal u write cell value point

-- some place of process u's transcript has such a write
pub record WasWritten (session : Outline) (journal : List journaled.Entry) (transcripts : List (List Step))
    (u : ℕ) (cell : CellUse) (value point : ℕ) : Type 0 where
  pub place : ℕ
  pub write : Element
  pub printed : slice_get (events_of (part transcripts u)) place ≡ Some (Core (Seen write))
  pub granted : IsGrantedWrite session journal u write cell value point

-- what a reference is given is zero that nobody wrote, or was written there by the process that is named as its writer,
-- at the point that is named as its stamp
abbrev pub WrittenBeforeReadLaw : Type 0
WrittenBeforeReadLaw = (session : Outline) (journal : List journaled.Entry) (transcripts : List (List Step))
    → IsLegal session journal transcripts
    → (p place : ℕ) (element : Element) (value writer stamp : ℕ)
    → slice_get (events_of (part transcripts p)) place ≡ Some (Core (Seen element))
    → element.outcome ≡ Read value writer stamp
    → ((writer ≡ 0) × (value ≡ 0)) ⊎ WasWritten session journal transcripts writer (cell_referred session journal p element) value stamp
