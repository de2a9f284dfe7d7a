-- Helpers: whether an event answers what a line asks for, and where it leaves the line.
use Rattle.std.specs.Prelude.{◌≡◌, Option, Some, None}
use Rattle.mx_core.specs.declared.elements.Element.{Element}
use Rattle.mx_core.specs.declared.elements.Event.TheVariants.{Seen, Missing}
use Rattle.mx_core.specs.declared.elements.Outcome.{Outcome}
use Rattle.mx_core.specs.declared.elements.Outcome.TheVariants as outcome
use Rattle.mx_line.specs.AtWork.{IsGoodWork, StandsAt, call_in, reference_in}
use Rattle.mx_line.specs.declared.asking.Next as asking
use Rattle.mx_line.specs.declared.asking.Next.TheVariants as asks
use Rattle.mx_line.specs.declared.at_work.LineAtWork.{LineAtWork}
use Rattle.mx_script.specs.declared.lines.Line.{Line}
use Rattle.mx_sdw.specs.Admissible.{IsAdmissible}
use Rattle.mx_sdw.specs.Descriptors.{Descriptor}
use Rattle.mx_state.specs.declared.journal.Entry as journaled
use Rattle.mx_transcript.specs.Asking.{next}
use Rattle.mx_transcript.specs.Courses.{Course}
use Rattle.mx_transcript.specs.Elements.{IsJudged}
use Rattle.mx_transcript.specs.Events.{IsEvent}
use Rattle.mx_transcript.specs.Next.{Calls}
use Rattle.mx_transcript.specs.Settings.{Setting}
use Rattle.mx_transcript.specs.declared.transcripts.Event2.{Event2}
use Rattle.mx_transcript.specs.declared.transcripts.Event2.TheVariants.{Core, Entry}
use Rattle.mx_upcall.specs.Control.{Control}

-- the descriptor beside an element is the one on which it was judged, which a table may hold
abbrev pub IsBeside : (Element → Descriptor) → Event2 → Descriptor → Type 0
IsBeside access (Core (Seen e)) d = (access e ≡ d) × IsAdmissible d
IsBeside access (Core (Missing segno by)) d = Unit {0}
IsBeside access (Entry number) d = Unit {0}

-- a word was stored
abbrev pub IsStore : Outcome → Type 0
IsStore (outcome.Read value writer stamp) = ⊥
IsStore (outcome.Written value) = Unit {0}
IsStore (outcome.Entered ring) = ⊥
IsStore (outcome.Denied denial) = ⊥

-- the element is the reference that is asked for, or the write, which was granted
abbrev pub IsAskedElement : asking.Next → Element → Descriptor → Type 0
IsAskedElement (asks.Asks r) e d = IsJudged (reference_in r) d e
IsAskedElement (asks.Fills r) e d = IsJudged (reference_in r) d e × IsStore e.outcome
IsAskedElement (asks.Calls ring called) e d = ⊥
IsAskedElement (asks.Ends end) e d = ⊥
IsAskedElement asks.Nowhere e d = ⊥

-- a reference is asked for
abbrev pub IsReference : asking.Next → Type 0
IsReference (asks.Asks r) = Unit {0}
IsReference (asks.Fills r) = ⊥
IsReference (asks.Calls ring called) = ⊥
IsReference (asks.Ends end) = ⊥
IsReference asks.Nowhere = ⊥

-- the entry is the call that is asked for
abbrev pub IsAskedCall : Line → asking.Next → journaled.Entry → Type 0
IsAskedCall l (asks.Asks r) entry = ⊥
IsAskedCall l (asks.Fills r) entry = ⊥
IsAskedCall l (asks.Calls ring called) entry = call_in l ring called ≡ Calls entry.ring entry.request
IsAskedCall l (asks.Ends end) entry = ⊥
IsAskedCall l asks.Nowhere entry = ⊥

-- an event leads from a course to one at which the line stands
pub record IsLed (setting : Setting) (g : Control) (l : Line) (event : Event2) (course : Course) (after : LineAtWork)
    : Type 0 where
  pub later : Course
  pub is : IsEvent setting (next g l course) course event later
  pub stands : StandsAt g l later after

-- the event answers wherever the line stands, and leads on
pub record IsAnswer (setting : Setting) (g : Control) (l : Line) (event : Event2) (before after : LineAtWork) : Type 0 where
  pub leads : (course : Course) → StandsAt g l course before → IsLed setting g l event course after
  pub good : IsGoodWork g after

-- it answers nowhere
pub record IsNoAnswer (setting : Setting) (g : Control) (l : Line) (event : Event2) (before : LineAtWork) : Type 0 where
  pub never : (course later : Course) → StandsAt g l course before
      → IsEvent setting (next g l course) course event later → ⊥

abbrev pub IsAnswered : Setting → Control → Line → Event2 → LineAtWork → Option LineAtWork → Type 0
IsAnswered setting g l event before None = IsNoAnswer setting g l event before
IsAnswered setting g l event before (Some after) = IsAnswer setting g l event before after
