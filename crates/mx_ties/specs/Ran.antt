-- What a process tells when it has run its script, of its transcript and its pass. It knows of no other process.
use Rattle.std.specs.Prelude.{◌≡◌, ℕ, suc, ◌+◌, ◌<◌, Option, List, [], map, length, Some, slice_get}
use Rattle.mx_upcall.specs.Control.{Control}
use Rattle.mx_state.specs.declared.journal.Entry as journaled
use Rattle.mx_script.specs.Sessions.{Outline, limit_of}
use Rattle.mx_core.specs.declared.elements.Element.{Element}
use Rattle.mx_transcript.specs.declared.transcripts.Event2.TheVariants.{Entry}
use Rattle.mx_transcript.specs.declared.transcripts.Result2.TheVariants.{HistoryFull}
use Rattle.mx_reads.specs.Deeds.{CellUse, Deed, Enters, Misses}
use Rattle.mx_transcript.specs.FullJournal.{AreFullFrom, HasNoneAfterFull}
use Rattle.mx_transcript.specs.Legal.{setup_entries}
use Rattle.mx_transcript.specs.Misses.{IsChanged}
use Rattle.mx_transcript.specs.Points.{IsNextEntry, ArePoints}
use Rattle.mx_transcript.specs.References.{deed_by}
use Rattle.mx_transcript.specs.Standing.{PromisesLines}
use Rattle.mx_transcript.specs.Transcripts.{Step, events_of, entries_named, numbers_of}
use Rattle.mx_ties.specs.Closed.{followed}
use Rattle.mx_ties.specs.Counting.{IsRising}
use Rattle.mx_ties.specs.Views.{Marked, View, event_of, judged_in, cores, cores_before}

-- an event names this own entry of the history: its mark counts the events before it
pub record IsOwnEntry (start : ℕ) (history : List Marked) (p number before : ℕ) : Type 0 where
  pub place : ℕ
  pub is : number ≡ start + suc place
  pub marked : Marked
  pub at : slice_get history place ≡ Some marked
  pub own : marked.entry.process ≡ p
  pub mark : marked.mark ≡ before

-- what a process knows of its misses: numbers of a pair rise, and are below the next own entry; no own entry in its
-- history changed the pair under the number of a miss; and a miss is above each own entry before it that did
pub record AreMisses (x : Outline) (journal : List journaled.Entry) (p : ℕ) (done : List Deed) : Type 0 where
  pub rising : (place segno by before earlier : ℕ) → slice_get done place ≡ Some (Misses segno by) → before < place
      → slice_get done before ≡ Some (Misses segno earlier) → earlier < by
  pub before_next : (place segno by number : ℕ) → slice_get done place ≡ Some (Misses segno by)
      → IsNextEntry done place number
      → by < number
  pub others : (place segno by other : ℕ) → slice_get done place ≡ Some (Misses segno by)
      → slice_get done other ≡ Some (Enters by) → IsChanged x journal p segno by → ⊥
  pub above : (place segno by other number : ℕ) → slice_get done place ≡ Some (Misses segno by) → other < place
      → slice_get done other ≡ Some (Enters number) → IsChanged x journal p segno number → number < by

-- what is true of a process that has run
pub record HasRun (x : Outline) (setup : List journaled.Entry) (p : ℕ) (steps : List Step) (v : View) : Type 0 where
  -- its lines keep the line rule over the history that it was told of, for all descriptors that agree with its trace;
  -- where it found the journal full, its floor is at the limit
  pub after : Control
  pub lines : PromisesLines x (followed setup v.history) v.floor (judged_in v.trace) p steps after
  -- its elements and misses are its trace
  pub traced : cores (events_of steps) ≡ map event_of v.trace
  -- its entries are own entries of its history, rise, and are as many as its share says
  pub own : (place number : ℕ) → slice_get (events_of steps) place ≡ Some (Entry number)
      → IsOwnEntry (length setup) v.history p number (cores_before (events_of steps) place)
  pub rising : IsRising (length setup + 1) (entries_named (events_of steps))
  pub amount : length (entries_named (events_of steps)) ≡ v.amount
  -- points keep the point rule, whatever the cells are, and do not exceed the floor
  pub points : (cell : Element → Option CellUse) → ArePoints (setup_entries x) v.floor
      (map (deed_by cell) (events_of steps))
  pub misses : (cell : Element → Option CellUse) → AreMisses x (followed setup v.history) p
      (map (deed_by cell) (events_of steps))
  -- an entry after a line that found the journal full would be above the limit
  pub full : (place later : ℕ) (full step : Step) (i number : ℕ) → slice_get steps place ≡ Some full
      → full.2 ≡ HistoryFull → place < later
      → slice_get steps later ≡ Some step → slice_get (entries_named step.1) i ≡ Some number → limit_of x < number

-- the initializer's part
pub record IsSetUp (x : Outline) (setup : List journaled.Entry) (steps : List Step) : Type 0 where
  pub after : Control
  pub lines : PromisesLines x setup (length setup) [] 0 steps after
  pub full : AreFullFrom (setup_entries x) steps
  pub none_after_full : HasNoneAfterFull steps
  pub calls : entries_named (events_of steps) ≡ numbers_of 0 setup
  pub quiet : cores (events_of steps) ≡ []
