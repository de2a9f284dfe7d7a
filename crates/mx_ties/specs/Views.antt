-- What is kept of a process, in its pass: a trace of its references and misses, and the entries that it was told of.
use Rattle.std.specs.Prelude.{ℕ, zero, suc, List, [], ◌∷◌}
use Rattle.mx_state.specs.declared.journal.Entry as journaled
use Rattle.mx_core.specs.declared.elements.Event.{Event}
use Rattle.mx_core.specs.declared.elements.Event.TheVariants.{Seen, Missing}
use Rattle.mx_transcript.specs.declared.transcripts.Event2.{Event2}
use Rattle.mx_transcript.specs.declared.transcripts.Event2.TheVariants.{Core, Entry}
use Rattle.mx_transcript.specs.Courses.{Judged}
use Rattle.mx_reads.specs.Deeds.{CellUse, Deed, Misses}
use Rattle.mx_transcript.specs.References.{reference, cell_by}

-- an event of a trace: an element with the descriptor on which it was judged, or a miss
pub data Kept : Type 0 where
  Referred : (judged : Judged) → Kept
  Missed : (segno by : ℕ) → Kept

abbrev pub event_of : Kept → Event
event_of (Referred j) = Seen j.element
event_of (Missed segno by) = Missing segno by

-- as a deed: its cell is that of the descriptor beside it, in the use that it has at the element's point
abbrev pub deed_kept : (ℕ → ℕ → CellUse) → Kept → Deed
deed_kept use_of (Referred j) = reference
    (cell_by (λ cell. use_of cell j.element.point) j.desc j.element.kind j.element.ring j.element.word) j.element.outcome
    j.element.point
deed_kept use_of (Missed segno by) = Misses segno by

-- the elements of a trace
abbrev pub judged_in : List Kept → List Judged
judged_in [] = []
judged_in (Referred j ∷ trace) = j ∷ judged_in trace
judged_in (Missed segno by ∷ trace) = judged_in trace

-- an entry with its mark: the length of its process's trace when it was made
pub record Marked : Type 0 where
  pub entry : journaled.Entry
  pub mark : ℕ

-- a pass: its trace, the history after the setup that it was told of, its floor (no later point is below it), and how
-- many own entries it counts
pub record View : Type 0 where
  pub trace : List Kept
  pub history : List Marked
  pub floor : ℕ
  pub amount : ℕ

-- the events of a transcript that its process's trace keeps
abbrev pub cores : List Event2 → List Event
cores [] = []
cores (Core event ∷ events) = event ∷ cores events
cores (Entry number ∷ events) = cores events

-- how many of them are before a place
abbrev pub cores_before : List Event2 → ℕ → ℕ
cores_before [] place = 0
cores_before (event ∷ events) zero = 0
cores_before (Core event ∷ events) (suc place) = suc (cores_before events place)
cores_before (Entry number ∷ events) (suc place) = cores_before events place
