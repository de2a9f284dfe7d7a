-- A write that a reply asks for and that was not made. Whether it is granted is no fact of a process: so a process
-- promises of its lines only where none failed, and when the office is closed none has.
use Rattle.std.specs.Prelude.{◌≡◌, ℕ, suc, ◌+◌, List, take, length, Some, slice_get}
use Rattle.mx_sdw.specs.declared.denials.Denial.{Denial}
use Rattle.mx_state.specs.declared.journal.Entry as journaled
use Rattle.mx_core.specs.declared.elements.Event.TheVariants.{Seen}
use Rattle.mx_core.specs.declared.elements.Outcome.TheVariants.{Written, Denied}
use Rattle.mx_transcript.specs.declared.transcripts.Event2.{Event2}
use Rattle.mx_transcript.specs.declared.transcripts.Event2.TheVariants.{Core, Entry}
use Rattle.mx_transcript.specs.Courses.{Course, Attempt, Answer, Judged}
use Rattle.mx_transcript.specs.Elements.{IsJudged}
use Rattle.mx_transcript.specs.Filling.{due}
use Rattle.mx_transcript.specs.Next.{Reference}
use Rattle.mx_ties.specs.Views.{Kept, Referred, Missed, Marked, event_of}

-- a reference that was granted, and its value stored
pub record IsMade (asked : Reference) (j : Judged) : Type 0 where
  pub right : IsJudged asked j.desc j.element
  pub value : ℕ
  pub granted : j.element.outcome ≡ Written value

-- the next event is this write, the one that is due after those before it, and it was made
pub record IsFilled (entry : journaled.Entry) (before : List Judged) (j : Judged) : Type 0 where
  pub asked : Reference
  pub next : due entry before ≡ Some asked
  pub is : IsMade asked j

-- After an own entry, which stands in the history and is named among the events, these writes that its reply asks for
-- were made, and nothing else between. The first entry after the setup has the number after `start`.
pub record HasFilled (start p : ℕ) (events : List Event2) (history : List Marked) (trace : List Kept)
    (entry : journaled.Entry) (filled : List Judged) : Type 0 where
  pub place : ℕ
  pub mark : ℕ
  pub at : slice_get history place ≡ Some (record { entry = entry; mark = mark })
  pub own : entry.process ≡ p
  pub named : ℕ
  pub entered : slice_get events named ≡ Some (Entry (start + suc place))
  pub event : (i : ℕ) (j : Judged) → slice_get filled i ≡ Some j
      → slice_get events (suc (named + i)) ≡ Some (Core (Seen j.element))
  pub kept : (i : ℕ) (j : Judged) → slice_get filled i ≡ Some j → slice_get trace (mark + i) ≡ Some (Referred j)
  pub made : (i : ℕ) (j : Judged) → slice_get filled i ≡ Some j → IsFilled entry (take i filled) j

-- a write that was asked for was missed, or denied
abbrev pub HasFailed : Kept → Reference → Type 0
HasFailed (Missed segno by) asked = segno ≡ asked.segno
HasFailed (Referred j) asked = IsJudged asked j.desc j.element × (denial : Denial) × (j.element.outcome ≡ Denied denial)

-- after an own entry a write that its reply asks for failed, all those before it having been made
pub record IsSpoilt (start p : ℕ) (events : List Event2) (history : List Marked) (trace : List Kept) : Type 0 where
  pub entry : journaled.Entry
  pub filled : List Judged
  pub before : HasFilled start p events history trace entry filled
  pub asked : Reference
  pub next : due entry filled ≡ Some asked
  pub came : Kept
  pub event : slice_get events (suc (before.named + length filled)) ≡ Some (Core (event_of came))
  pub kept : slice_get trace (before.mark + length filled) ≡ Some came
  pub failed : HasFailed came asked

-- after an answer, all that came since are the writes that were made
pub record HasAnswered (start p : ℕ) (events : List Event2) (history : List Marked) (trace : List Kept)
    (entry : journaled.Entry) (filled : List Judged) : Type 0 where
  pub so_far : HasFilled start p events history trace entry filled
  pub last : length events ≡ suc (so_far.named + length filled)
  pub all : length trace ≡ so_far.mark + length filled

abbrev pub IsAnswering : ℕ → ℕ → List Event2 → List Marked → List Kept → Course → Type 0
IsAnswering start p events history trace (Attempt seen) = Unit {0}
IsAnswering start p events history trace (Answer entry filled) = HasAnswered start p events history trace entry filled
