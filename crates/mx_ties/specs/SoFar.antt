-- A process with a line at work: what it keeps of its transcript so far and of its pass.
use Rattle.std.specs.Prelude.{◌≡◌, ℕ, ◌+◌, ◌<◌, ◌≤◌, Option, List, ◌++◌, map, length, Some, slice_get}
use Rattle.mx_sdw.specs.Descriptors.{Descriptor}
use Rattle.mx_upcall.specs.Control.{Control}
use Rattle.mx_state.specs.declared.journal.Entry as journaled
use Rattle.mx_script.specs.Sessions.{Outline, limit_of}
use Rattle.mx_script.specs.declared.lines.Line.{Line}
use Rattle.mx_core.specs.declared.elements.Element.{Element}
use Rattle.mx_transcript.specs.declared.transcripts.Event2.{Event2}
use Rattle.mx_transcript.specs.declared.transcripts.Event2.TheVariants.{Entry}
use Rattle.mx_transcript.specs.declared.transcripts.Result2.TheVariants.{HistoryFull}
use Rattle.mx_transcript.specs.Courses.{Course, Judged}
use Rattle.mx_reads.specs.Deeds.{CellUse}
use Rattle.mx_transcript.specs.Legal.{setup_entries}
use Rattle.mx_transcript.specs.Openings.{opening_control}
use Rattle.mx_transcript.specs.References.{deed_by}
use Rattle.mx_transcript.specs.SoFar.{IsPartSoFar}
use Rattle.mx_transcript.specs.Standing.{AgreesWith, own_setting}
use Rattle.mx_transcript.specs.Transcripts.{Step, events_of, entries_named}
use Rattle.mx_ties.specs.Closed.{followed}
use Rattle.mx_ties.specs.Counting.{IsRising}
use Rattle.mx_ties.specs.Going.{IsGoing}
use Rattle.mx_ties.specs.Ran.{IsOwnEntry}
use Rattle.mx_ties.specs.Views.{View, event_of, judged_in, cores, cores_before}

-- how all its events so far are tied to its pass
pub record AreTied (x : Outline) (setup : List journaled.Entry) (p : ℕ) (events : List Event2) (v : View)
    (told : ℕ → ℕ) : Type 0 where
  -- elements and misses are the trace
  pub traced : cores events ≡ map event_of v.trace
  -- entries are own entries of the history, rise, and are as many as the share says
  pub own : (place number : ℕ) → slice_get events place ≡ Some (Entry number)
      → IsOwnEntry (length setup) v.history p number (cores_before events place)
  pub rising : IsRising (length setup + 1) (entries_named events)
  pub amount : length (entries_named events) ≡ v.amount
  -- points and misses
  pub going : (cell : Element → Option CellUse) → IsGoing x (followed setup v.history) (setup_entries x) p
      (map (deed_by cell) events) v.floor told

-- an entry after a line that found the journal full is above the limit, which the floor has reached
pub record IsFullKept (limit floor : ℕ) (steps : List Step) (events : List Event2) : Type 0 where
  pub reached : (place : ℕ) (full : Step) → slice_get steps place ≡ Some full → full.2 ≡ HistoryFull → limit ≤ floor
  pub done : (place later : ℕ) (full step : Step) (i number : ℕ) → slice_get steps place ≡ Some full
      → full.2 ≡ HistoryFull → place < later
      → slice_get steps later ≡ Some step → slice_get (entries_named step.1) i ≡ Some number → limit < number
  pub at_work : (place : ℕ) (full : Step) (i number : ℕ) → slice_get steps place ≡ Some full → full.2 ≡ HistoryFull
      → slice_get (entries_named events) i ≡ Some number → limit < number

-- the lines so far, of those that the part is to have, whatever descriptors agree with the trace
abbrev pub PromisesPart : Outline → List journaled.Entry → ℕ → List Judged → ℕ → List (ℕ × Line) → List Step → ℕ → Line
    → List (ℕ × Line) → Control
    → List Event2 → Course → Type 0
PromisesPart x front floor trace p ran steps number line left now events course = (d : Element → Descriptor)
    → AgreesWith d trace
    → IsPartSoFar (own_setting x front floor p d) (opening_control x p) ran steps number line left now events course

-- what is true of a process at work
pub record HasRunSoFar (x : Outline) (setup : List journaled.Entry) (p : ℕ) (ran : List (ℕ × Line)) (steps : List Step)
    (number : ℕ) (line : Line) (left : List (ℕ × Line)) (now : Control) (events : List Event2) (course : Course) (v : View)
    (told : ℕ → ℕ) : Type 0 where
  pub lines : PromisesPart x (followed setup v.history) v.floor
      (judged_in v.trace) p ran steps number line left now events course
  pub tied : AreTied x setup p (events_of steps ++ events) v told
  pub full : IsFullKept (limit_of x) v.floor steps events
