-- The first line of a process's part that departs from the line rule.
use Rattle.std.specs.Prelude.{◌≡◌, ℕ, suc, List, length, take, Option, Some, None, slice_get}
use Rattle.mx_core.specs.declared.elements.Element.{Element}
use Rattle.mx_core.specs.declared.elements.Event.TheVariants.{Seen}
use Rattle.mx_script.specs.declared.lines.Line.{Line}
use Rattle.mx_sdw.specs.Admissible.{IsAdmissible}
use Rattle.mx_sdw.specs.Descriptors.{Descriptor}
use Rattle.mx_transcript.specs.Parts.{AreDone, AreLinesOf}
use Rattle.mx_transcript.specs.Settings.{Setting}
use Rattle.mx_transcript.specs.Transcripts.{Step}
use Rattle.mx_transcript.specs.declared.transcripts.Event2.{Event2}
use Rattle.mx_transcript.specs.declared.transcripts.Event2.TheVariants.{Core}
use Rattle.mx_upcall.specs.Control.{Control}

-- These steps are a part's first ones: the lines that it has, all of these or those of a part that is cut after a denied line,
-- came to them, as many as there are.
pub record AreKept (setting : Setting) (start : Control) (lines : List (ℕ × Line)) (steps : List Step) : Type 0 where
  pub ran : List (ℕ × Line)
  pub are : AreLinesOf lines steps ran
  pub left : List (ℕ × Line)
  pub now : Control
  pub done : AreDone setting start ran steps left now

-- the steps before this place are right, and with the one there they are not
pub record IsFirstBad (setting : Setting) (start : Control) (lines : List (ℕ × Line)) (steps : List Step) (place : ℕ)
    : Type 0 where
  pub before : AreKept setting start lines (take place steps)
  pub bad : AreKept setting start lines (take (suc place) steps) → ⊥

-- the place of the first step that is not right, or none
abbrev pub IsFirstBadLine : Setting → Control → List (ℕ × Line) → List Step → Option ℕ → Type 0
IsFirstBadLine setting start lines steps None = AreKept setting start lines steps
IsFirstBadLine setting start lines steps (Some place) = IsFirstBad setting start lines steps place

-- There is one descriptor for each event; beside an element it is the one on which that was judged, which a table may hold.
pub record AreBeside (access : Element → Descriptor) (events : List Event2) (descriptors : List Descriptor) : Type 0 where
  pub each : length descriptors ≡ length events
  pub on : (place : ℕ) (e : Element) → slice_get events place ≡ Some (Core (Seen e))
      → slice_get descriptors place ≡ Some (access e)
  pub admissible : (place : ℕ) (e : Element) → slice_get events place ≡ Some (Core (Seen e)) → IsAdmissible (access e)
