-- On which access each event of a run's transcripts stood: one row for each transcript, in it one item for each event, in
-- order.
use Rattle.std.specs.Prelude.{◌≡◌, ◌↔◌, ℕ, ◌-◌, not, Bool, false, IsTrue, List, [], length, map, slice_index_or}
use Rattle.std.specs.List.{All}
use Rattle.mx_access.specs.declared.access.Access.{Access}
use Rattle.mx_core.specs.declared.elements.Element.{Element}
use Rattle.mx_core.specs.declared.elements.Event.TheVariants.{Seen, Missing}
use Rattle.mx_script.specs.Sessions.{Outline}
use Rattle.mx_sdw.specs.Admissible.{IsAdmissible}
use Rattle.mx_sdw.specs.Descriptors.{Descriptor, unknown_desc}
use Rattle.mx_sdw.specs.Same.{same_desc}
use Rattle.mx_state.specs.declared.journal.Entry as journaled
use Rattle.mx_stores.specs.Parts.{deeds_of}
use Rattle.mx_transcript.specs.Access.{descriptor_at, descriptor_of}
use Rattle.mx_transcript.specs.Legal.{deeds}
use Rattle.mx_transcript.specs.Misses.{IsChanged}
use Rattle.mx_transcript.specs.Transcripts.{Step, part, events_of}
use Rattle.mx_transcript.specs.declared.transcripts.Event2.{Event2}
use Rattle.mx_transcript.specs.declared.transcripts.Event2.TheVariants.{Core, Entry}

-- the descriptor on which an event was judged: that of a reference, and no other event is judged
abbrev pub judged_on : (Element → Descriptor) → Event2 → Descriptor
judged_on descriptor (Core (Seen element)) = descriptor element
judged_on descriptor (Core (Missing segno by)) = unknown_desc
judged_on descriptor (Entry number) = unknown_desc

-- whether entry `by` changed the descriptor of process p and this number: entry 0, and one beyond the journal, changes none
abbrev pub is_changed : Outline → List journaled.Entry → ℕ → ℕ → ℕ → Bool
is_changed session journal p segno by =
    not (same_desc (descriptor_at session journal (by - 1) p segno) (descriptor_at session journal by p segno))

-- whether the entry by which an event missed did; no other event missed
abbrev pub missed_changed : (ℕ → ℕ → Bool) → Event2 → Bool
missed_changed changed (Core (Missing segno by)) = changed segno by
missed_changed changed (Core (Seen element)) = false
missed_changed changed (Entry number) = false

-- each row is that of its process; there are no others
pub record IsAccess (session : Outline) (journal : List journaled.Entry) (transcripts : List (List Step))
    (access : Access) : Type 0 where
  pub rows : length access.descriptors.items ≡ length transcripts
  pub deed_rows : length access.deeds.items ≡ length transcripts
  pub change_rows : length access.changes.items ≡ length transcripts
  -- what each process did
  pub deeds : (p : ℕ) → deeds_of access.deeds.items p ≡ deeds session journal transcripts p
  -- the descriptor of each reference at its printed point
  pub descriptors : (p : ℕ) → slice_index_or access.descriptors.items p []
      ≡ map (judged_on (descriptor_of session journal p)) (events_of (part transcripts p))
  -- whether the entry of each miss changed its pair
  pub changes : (p : ℕ) → slice_index_or access.changes.items p []
      ≡ map (missed_changed (is_changed session journal p)) (events_of (part transcripts p))
  -- a table of descriptors may hold each
  pub admissible : (p : ℕ) → All IsAdmissible (slice_index_or access.descriptors.items p [])

-- the test says whether an entry changed the descriptor
abbrev pub ChangedLaw : Type 0
ChangedLaw = (session : Outline) (journal : List journaled.Entry) (p segno by : ℕ)
    → IsTrue (is_changed session journal p segno by) ↔ IsChanged session journal p segno by
