-- The line rule: each event of a line is what the line asks for next, and the line ends where it asks for nothing
-- more.
use Rattle.std.specs.Prelude.{◌≡◌, true, List, [], ◌∷◌}
use Rattle.mx_upcall.specs.Control.{Control}
use Rattle.mx_script.specs.declared.lines.Line.{Line}
use Rattle.mx_transcript.specs.declared.transcripts.Event2.{Event2}
use Rattle.mx_transcript.specs.declared.transcripts.Result2.{Result2}
use Rattle.mx_transcript.specs.declared.transcripts.Result2.TheVariants.{HistoryFull}
use Rattle.mx_transcript.specs.Asking.{next}
use Rattle.mx_transcript.specs.Courses.{Course, Attempt}
use Rattle.mx_transcript.specs.Events.{IsEvent}
use Rattle.mx_transcript.specs.Next.{Next, Asks, Fills, Calls, Ends, Nowhere}
use Rattle.mx_transcript.specs.Settings.{Setting}

-- events one after another
abbrev pub Goes : Setting → Control → Line → Course → List Event2 → Course → Type 0
Goes setting control line before [] after = after ≡ before
Goes setting control line before (event ∷ events) after =
    (between : Course) × IsEvent setting (next control line before) before event between × Goes setting control line between events after

-- a line's events so far
abbrev pub IsSoFar : Setting → Control → Line → List Event2 → Course → Type 0
IsSoFar setting control line events course = Goes setting control line (Attempt []) events course

-- A line ends where it asks for its end, or with a call that found the journal at its limit and was not entered.
abbrev pub IsEnd : Setting → Control → Next → Result2 → Control → Type 0
IsEnd setting control (Ends result last) ends after = (ends ≡ result) × (after ≡ last)
IsEnd setting control (Calls ring request) ends after = (setting.full ≡ true) × (ends ≡ HistoryFull) × (after ≡ control)
IsEnd setting control (Asks reference) ends after = ⊥
IsEnd setting control (Fills reference) ends after = ⊥
IsEnd setting control Nowhere ends after = ⊥

-- a whole line: from these registers and return gates, its events, its result, and the registers and gates after it
pub record IsLine (setting : Setting) (before : Control) (line : Line) (events : List Event2) (ends : Result2)
    (after : Control) : Type 0 where
  pub course : Course
  pub so_far : IsSoFar setting before line events course
  pub end : IsEnd setting before (next before line course) ends after
