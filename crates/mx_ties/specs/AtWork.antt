-- A process with a line at work, as far as its transcript goes.
use Rattle.std.specs.Prelude.{ℕ, List, [], ◌∷◌, ◌++◌}
use Rattle.mx_upcall.specs.Control.{Control}
use Rattle.mx_state.specs.declared.journal.Entry as journaled
use Rattle.mx_script.specs.declared.lines.Line.{Line}
use Rattle.mx_transcript.specs.declared.transcripts.Event2.{Event2}
use Rattle.mx_transcript.specs.declared.transcripts.Result2.{Result2}
use Rattle.mx_transcript.specs.Asking.{next}
use Rattle.mx_transcript.specs.Courses.{Course, Attempt, Answer, Judged}
use Rattle.mx_transcript.specs.Next.{Next}
use Rattle.mx_transcript.specs.Transcripts.{Step, events_of}

-- the lines that its part is to have, and those of them that are done; the line at work with its number, and the lines that
-- are left; the registers and gates at its start; its events so far, and how far they lead
pub record AtWork : Type 0 where
  pub ran : List (ℕ × Line)
  pub steps : List Step
  pub number : ℕ
  pub line : Line
  pub left : List (ℕ × Line)
  pub now : Control
  pub events : List Event2
  pub course : Course

-- what the line asks for next
abbrev pub asks : AtWork → Next
asks w = next w.now w.line w.course

-- all events of the process so far
abbrev pub all_events : AtWork → List Event2
all_events w = events_of w.steps ++ w.events

-- since an entry, after which these writes were made
abbrev pub since : AtWork → journaled.Entry → List Judged → AtWork
since w entry filled = record w { course = Answer entry filled }

-- with one event more, which leads so far
abbrev pub gone_on : AtWork → Event2 → Course → AtWork
gone_on w event course = record w { events = w.events ++ event ∷ []; course = course }

-- the lines that are done when this one has ended so
abbrev pub done_with : AtWork → Result2 → List Step
done_with w ends = w.steps ++ (w.number, w.events, ends) ∷ []

-- at the beginning of the next line, of this number
abbrev pub next_line : AtWork → Result2 → Control → ℕ → Line → List (ℕ × Line) → AtWork
next_line w ends after number line left = record {
  ran = w.ran;
  steps = done_with w ends;
  number = number;
  line = line;
  left = left;
  now = after;
  events = [];
  course = Attempt [];
}

-- The same where the part is cut: it is to have these lines, and this one, of this number, is the last.
abbrev pub cut_to : AtWork → List (ℕ × Line) → ℕ → Line → AtWork
cut_to w ran number line = record w { ran = ran; number = number; line = line; left = [] }
