-- Helpers that only private contracts cite: the rows of all processes.
use Rattle.std.specs.Prelude.{◌≡◌, ℕ, ◌≤◌, ◌<◌, List, ◌++◌, length, map, drop, Ok, Result, Some, slice_get, slice_index_or}
use Rattle.std.specs.declared.alloc.AllocError.{AllocError}
use Rattle.mx_access.specs.Rows.{AreToldOf, IsRow}
use Rattle.mx_access.specs.declared.access.Access.{Access}
use Rattle.mx_access.specs.declared.answers.Row.{Row}
use Rattle.mx_access.specs.declared.questions.Told.{Told}
use Rattle.mx_script.specs.Sessions.{Outline}
use Rattle.mx_state.specs.declared.journal.Entry as journaled
use Rattle.mx_transcript.specs.Transcripts.{Step, part, events_of}

-- what was told of the events of each process stands behind so much that was told of others
pub record AreToldFrom (session : Outline) (journal : List journaled.Entry) (transcripts : List (List Step)) (starts : List ℕ)
    (told : List Told) : Type 0 where
  pub long : length starts ≡ length transcripts
  pub within : (p : ℕ) → p < length transcripts → slice_index_or starts p 0 ≤ length told
  pub each : (p : ℕ) → p < length transcripts
      → AreToldOf session journal p (events_of (part transcripts p)) (drop (slice_index_or starts p 0) told)

-- for each of the first so many transcripts a row, made or wanting memory; each that was made is that of its process
pub record AreRows (session : Outline) (journal : List journaled.Entry) (transcripts : List (List Step)) (count : ℕ)
    (made : List (Result Row AllocError)) : Type 0 where
  pub long : length made ≡ count
  pub each : (p : ℕ) (row : Row) → slice_get made p ≡ Some (Ok row) → IsRow session journal p (events_of (part transcripts p)) row

-- these rows but those that are left were all made, and stand in the access
pub record IsOf (made left : List (Result Row AllocError)) (access : Access) : Type 0 where
  pub rows : List Row
  pub all : made ≡ map Ok rows ++ left
  pub deeds : access.deeds.items ≡ map (λ row. row.deeds) rows
  pub descriptors : access.descriptors.items ≡ map (λ row. row.descriptors) rows
  pub changes : access.changes.items ≡ map (λ row. row.changes) rows
