-- What a reader of a legal run may rely on: each printed reference is what the judging rule gives on the access at
-- its printed point, for some current ring and some answers to whether a call stays within its segment and whether it may
-- go upward; the line rule says that they are those of the registers and return gates.
use Rattle.std.specs.Prelude.{◌≡◌, ℕ, ◌<◌, List, length, Some, slice_get}
use Rattle.mx_script.specs.Sessions.{Outline}
use Rattle.mx_state.specs.declared.journal.Entry as journaled
use Rattle.mx_core.specs.declared.elements.Element.{Element}
use Rattle.mx_core.specs.declared.elements.Event.TheVariants.{Seen}
use Rattle.mx_transcript.specs.declared.transcripts.Event2.TheVariants.{Core}
use Rattle.mx_transcript.specs.Access.{descriptor_of}
use Rattle.mx_transcript.specs.Elements.{IsJudged}
use Rattle.mx_transcript.specs.Legal.{IsLegal}
use Rattle.mx_transcript.specs.Next.{Reference}
use Rattle.mx_transcript.specs.Transcripts.{Step, part, events_of}

-- a reference that the judging rule answered so
pub record IsRightElement (session : Outline) (journal : List journaled.Entry) (p : ℕ) (element : Element) : Type 0 where
  pub asked : Reference
  pub right : IsJudged asked (descriptor_of session journal p element) element

abbrev pub EachReferenceLaw : Type 0
EachReferenceLaw = (session : Outline) (journal : List journaled.Entry) (transcripts : List (List Step))
    → IsLegal session journal transcripts
    → (p place : ℕ) (element : Element) → p < length transcripts
    → slice_get (events_of (part transcripts p)) place ≡ Some (Core (Seen element))
    → IsRightElement session journal p element
