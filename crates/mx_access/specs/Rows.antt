-- Helpers that only private contracts cite: what an event was, by what was told of it.
use Rattle.std.specs.Prelude.{◌≡◌, ℕ, ◌≤◌, nat_lt, Bool, not, ◌&&◌, List, length, map, Option, Some, slice_get}
use Rattle.std.specs.List.{All}
use Rattle.mx_access.specs.Answers.{is_changed, judged_on, missed_changed}
use Rattle.mx_access.specs.Passing.{IsTold}
use Rattle.mx_access.specs.Questions.{question_of}
use Rattle.mx_access.specs.declared.answers.Row.{Row}
use Rattle.mx_access.specs.declared.questions.Question.{Question}
use Rattle.mx_access.specs.declared.questions.Told.{Told}
use Rattle.mx_core.specs.declared.elements.Element.{Element}
use Rattle.mx_reads.specs.Deeds.{CellUse, Deed}
use Rattle.mx_script.specs.Sessions.{Outline}
use Rattle.mx_sdw.specs.Admissible.{IsAdmissible}
use Rattle.mx_sdw.specs.Descriptors.{Descriptor}
use Rattle.mx_sdw.specs.Same.{same_desc}
use Rattle.mx_state.specs.declared.journal.Entry as journaled
use Rattle.mx_transcript.specs.Access.{descriptor_of}
use Rattle.mx_transcript.specs.References.{cell_by, cell_of, deed_by}
use Rattle.mx_transcript.specs.Uses.{use_of}
use Rattle.mx_transcript.specs.declared.transcripts.Event2.{Event2}

abbrev pub use_since : ℕ → ℕ → CellUse
use_since since cell = record { cell = cell; since = since }

-- the cell of a reference of which this was told
abbrev pub told_cell : Told → Element → Option CellUse
told_cell told element = cell_by (use_since told.since) told.desc element.kind element.ring element.word

abbrev pub told_desc : Told → Event2 → Descriptor
told_desc told event = judged_on (λ element. told.desc) event

abbrev pub told_change : Question → Told → Bool
told_change question told = nat_lt question.before question.point && not (same_desc told.before told.desc)

abbrev pub event_change : ℕ → ℕ → Told → Event2 → Bool
event_change entries p told event = missed_changed (λ segno by. told_change (question_of entries p event) told) event

-- what was told of the first so many questions is so, which are those about these events of process p
pub record AreToldOf (session : Outline) (journal : List journaled.Entry) (p : ℕ) (events : List Event2) (told : List Told) : Type 0 where
  pub long : length events ≤ length told
  pub each : (at : ℕ) (event : Event2) (answer : Told) → slice_get events at ≡ Some event → slice_get told at ≡ Some answer
      → IsTold session journal (question_of (length journal) p event) answer

-- what deed an event of process p was
abbrev pub deed_of_process : Outline → List journaled.Entry → ℕ → Event2 → Deed
deed_of_process session journal p = deed_by (cell_of (use_of session journal) (descriptor_of session journal p))

-- the row of a process with these events
pub record IsRow (session : Outline) (journal : List journaled.Entry) (p : ℕ) (events : List Event2) (row : Row) : Type 0 where
  pub deeds : row.deeds ≡ map (deed_of_process session journal p) events
  pub descriptors : row.descriptors ≡ map (judged_on (descriptor_of session journal p)) events
  pub changes : row.changes ≡ map (missed_changed (is_changed session journal p)) events
  pub admissible : All IsAdmissible row.descriptors
