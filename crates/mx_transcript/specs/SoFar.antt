-- How lines so far go on, for whoever runs them: what was right stays right, event by event and line by line.
use Rattle.std.specs.Prelude.{◌≡◌, ℕ, ◌<◌, ◌≤◌, true, List, [], ◌∷◌, ◌++◌, length, Some, slice_get}
use Rattle.mx_upcall.specs.Control.{Control}
use Rattle.mx_script.specs.Sessions.{Outline, limit_of}
use Rattle.mx_script.specs.declared.lines.Line.{Line}
use Rattle.mx_state.specs.declared.journal.Entry as journaled
use Rattle.mx_core.specs.declared.elements.Element.{Element}
use Rattle.mx_core.specs.declared.elements.Event.TheVariants.{Seen, Missing}
use Rattle.mx_core.specs.declared.elements.Outcome.TheVariants.{Written}
use Rattle.mx_transcript.specs.declared.transcripts.Event2.{Event2}
use Rattle.mx_transcript.specs.declared.transcripts.Event2.TheVariants.{Core, Entry}
use Rattle.mx_transcript.specs.declared.transcripts.Result2.{Result2}
use Rattle.mx_transcript.specs.Asking.{next}
use Rattle.mx_transcript.specs.Courses.{Course, Attempt, Answer, Judged, seen_in}
use Rattle.mx_transcript.specs.Elements.{IsJudged}
use Rattle.mx_transcript.specs.Legal.{setting_of}
use Rattle.mx_transcript.specs.Lines.{IsSoFar, IsEnd, IsLine}
use Rattle.mx_transcript.specs.Next.{Reference, Asks, Fills, Calls}
use Rattle.mx_transcript.specs.Parts.{AreDone}
use Rattle.mx_transcript.specs.Settings.{Setting, entry_at, judged}
use Rattle.mx_transcript.specs.Transcripts.{Step, events_of}

-- a process's part so far: the lines that are done, the line at work with its events, and the lines that are left
pub record IsPartSoFar (setting : Setting) (start : Control) (lines : List (ℕ × Line)) (steps : List Step)
    (number : ℕ) (line : Line) (left : List (ℕ × Line)) (now : Control) (events : List Event2)
    (course : Course) : Type 0 where
  pub done : AreDone setting start lines steps ((number, line) ∷ left) now
  pub at_work : IsSoFar setting now line events course

-- the reference that is asked for was made
abbrev pub ReferenceLaw : Type 0
ReferenceLaw = (setting : Setting) (g : Control) (line : Line) (events : List Event2) (course : Course)
    (asked : Reference) (e : Element)
    → IsSoFar setting g line events course → next g line course ≡ Asks asked → IsJudged asked (setting.descriptor e) e
    → IsSoFar setting g line (events ++ Core (Seen e) ∷ []) (Attempt (seen_in course ++ judged setting e ∷ []))

-- the write that is asked for was made
abbrev pub FillLaw : Type 0
FillLaw = (setting : Setting) (g : Control) (line : Line) (events : List Event2) (entry : journaled.Entry)
    (filled : List Judged) (asked : Reference) (e : Element) (value : ℕ)
    → IsSoFar setting g line events (Answer entry filled) → next g line (Answer entry filled) ≡ Fills asked
    → IsJudged asked (setting.descriptor e) e → e.outcome ≡ Written value
    → IsSoFar setting g line (events ++ Core (Seen e) ∷ []) (Answer entry (filled ++ judged setting e ∷ []))

-- the reference that is asked for missed
abbrev pub MissLaw : Type 0
MissLaw = (setting : Setting) (g : Control) (line : Line) (events : List Event2) (course : Course) (asked : Reference)
    (segno by : ℕ)
    → IsSoFar setting g line events course → next g line course ≡ Asks asked
    → IsSoFar setting g line (events ++ Core (Missing segno by) ∷ []) (Attempt [])

-- the call that is asked for was entered
abbrev pub CallLaw : Type 0
CallLaw = (setting : Setting) (g : Control) (line : Line) (events : List Event2) (course : Course)
    (entry : journaled.Entry) (number : ℕ)
    → IsSoFar setting g line events course → next g line course ≡ Calls entry.ring entry.request
    → entry.process ≡ setting.process → entry_at setting.journal number ≡ Some entry
    → IsSoFar setting g line (events ++ Entry number ∷ []) (Answer entry [])

-- the line at work came to its end
abbrev pub LineLaw : Type 0
LineLaw = (setting : Setting) (start now after : Control) (lines left : List (ℕ × Line)) (steps : List Step)
    (number : ℕ) (line : Line) (events : List Event2) (course : Course) (ends : Result2)
    → IsPartSoFar setting start lines steps number line left now events course → IsEnd setting now (next now line course) ends after
    → AreDone setting start lines (steps ++ (number, events, ends) ∷ []) left after

-- a setting knows all that the other does of these events
pub record Extends (old new : Setting) (events : List Event2) : Type 0 where
  pub process : new.process ≡ old.process
  pub entries : (number : ℕ) (entry : journaled.Entry) → entry_at old.journal number ≡ Some entry
      → entry_at new.journal number ≡ Some entry
  pub full : old.full ≡ true → new.full ≡ true
  pub descriptors : (place : ℕ) (e : Element) → slice_get events place ≡ Some (Core (Seen e))
      → new.descriptor e ≡ old.descriptor e

-- then what is right in the one is right in the other
abbrev pub ExtendsLaw : Type 0
ExtendsLaw = (old new : Setting) (start now : Control) (lines left : List (ℕ × Line)) (steps : List Step)
    (number : ℕ) (line : Line) (events : List Event2) (course : Course)
    → Extends old new (events_of steps ++ events)
    → IsPartSoFar old start lines steps number line left now events course
    → IsPartSoFar new start lines steps number line left now events course

-- a line leaves nothing open: its events and result have one course and one outcome
abbrev pub OneOutcomeLaw : Type 0
OneOutcomeLaw = (setting : Setting) (g after after' : Control) (line : Line) (events : List Event2) (ends : Result2)
    → IsLine setting g line events ends after → IsLine setting g line events ends after' → after ≡ after'

-- the journal grows by an entry, below its limit: what was right of a process so far still is
abbrev pub GrownLaw : Type 0
GrownLaw = (session : Outline) (journal : List journaled.Entry) (entry : journaled.Entry) (p : ℕ) (events : List Event2)
    → length journal < limit_of session
    → ((place : ℕ) (e : Element) → slice_get events place ≡ Some (Core (Seen e)) → e.point ≤ length journal)
    → Extends (setting_of session journal p) (setting_of session (journal ++ entry ∷ []) p) events
