-- Confidentiality of references, in a legal run: a process is given a word only by a reference that was granted, at a
-- ring within the read bracket and by a deciding entry that has r; an instruction only within the execute bracket and by
-- one that has e. It is so at the reference's printed point.
use Rattle.std.specs.Prelude.{◌≡◌, ℕ, Bool, false, List, Some, slice_get}
use Rattle.mx_acl.specs.Modes.{has_r, has_e}
use Rattle.mx_acl.specs.declared.modes.Modes.{Modes}
use Rattle.mx_core.specs.declared.elements.Element.{Element}
use Rattle.mx_core.specs.declared.elements.Event.TheVariants.{Seen}
use Rattle.mx_core.specs.declared.elements.Kind.{Kind}
use Rattle.mx_core.specs.declared.elements.Kind.TheVariants as kind
use Rattle.mx_core.specs.declared.elements.Outcome.TheVariants.{Read}
use Rattle.mx_sdw.specs.Descriptors.{Descriptor}
use Rattle.mx_sdw.specs.Granting.{CanRead, CanExecute}
use Rattle.mx_script.specs.Sessions.{Outline}
use Rattle.mx_state.specs.declared.journal.Entry as journaled
use Rattle.mx_transcript.specs.Grants.{HadAccess}
use Rattle.mx_transcript.specs.Legal.{IsLegal}
use Rattle.mx_transcript.specs.Transcripts.{Step, part, events_of}
use Rattle.mx_transcript.specs.declared.transcripts.Event2.TheVariants.{Core}

-- the access that a reference of this kind needs to be given a word; writes, calls and returns are given none
abbrev pub MayBeGiven : Kind → Descriptor → ℕ → Type 0
MayBeGiven kind.Read d ring = CanRead d ring
MayBeGiven kind.Ind d ring = CanRead d ring
MayBeGiven kind.Fetch d ring = CanExecute d ring
MayBeGiven kind.Write d ring = ⊥
MayBeGiven kind.Call d ring = ⊥
MayBeGiven kind.Return d ring = ⊥

-- and the letter
abbrev pub letter_for : Kind → Modes → Bool
letter_for kind.Read modes = has_r modes
letter_for kind.Ind modes = has_r modes
letter_for kind.Fetch modes = has_e modes
letter_for kind.Write modes = false
letter_for kind.Call modes = false
letter_for kind.Return modes = false

abbrev pub GivenWordsLaw : Type 0
GivenWordsLaw = (session : Outline) (journal : List journaled.Entry) (transcripts : List (List Step))
    → IsLegal session journal transcripts
    → (p place : ℕ) (element : Element) (value writer stamp : ℕ)
    → slice_get (events_of (part transcripts p)) place ≡ Some (Core (Seen element))
    → element.outcome ≡ Read value writer stamp
    → HadAccess session journal p element (MayBeGiven element.kind) (letter_for element.kind)
