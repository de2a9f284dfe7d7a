-- A line is right where what is left of it is, event by event.
use Rattle.std.proofs.Common.{◌≡◌, ℕ, suc, ◌+◌, ◌≤◌, List, [], ◌∷◌, length, drop, Some, sym, ◌∙◌, subst, arith}
use Rattle.std.specs.List.{slice_get}
use Rattle.mx_core.specs.declared.elements.Element.{Element}
use Rattle.mx_core.specs.declared.elements.Event.TheVariants.{Missing, Seen}
use Rattle.mx_line.specs.AtWork.{IsGoodWork, OneCourseLaw, StandsAt}
use Rattle.mx_line.specs.declared.at_work.LineAtWork.{LineAtWork}
use Rattle.mx_parts.proofs.ListLaws.{drop_at, drop_past}
use Rattle.mx_parts.specs.Answers.{IsAnswer, IsBeside, IsNoAnswer}
use Rattle.mx_parts.specs.Ends.{IsWrongLine}
use Rattle.mx_parts.specs.FirstBad.{AreBeside}
use Rattle.mx_parts.specs.Rests.{AreOfNoLine, IsRightBy}
use Rattle.mx_script.specs.declared.lines.Line.{Line}
use Rattle.mx_sdw.specs.Admissible.{IsAdmissible}
use Rattle.mx_sdw.specs.Descriptors.{Descriptor}
use Rattle.mx_transcript.specs.Asking.{next}
use Rattle.mx_transcript.specs.Courses.{Attempt, Course}
use Rattle.mx_transcript.specs.Lines.{Goes}
use Rattle.mx_transcript.specs.Settings.{Setting}
use Rattle.mx_transcript.specs.declared.transcripts.Event2.{Event2}
use Rattle.mx_transcript.specs.declared.transcripts.Event2.TheVariants.{Core, Entry}
use Rattle.mx_transcript.specs.declared.transcripts.Result2.{Result2}
use Rattle.mx_upcall.specs.Control.{Control}

-- where it begins
pub begun : (setting : Setting) (g : Control) (l : Line) (all : List Event2) (work : LineAtWork) → StandsAt g l (Attempt []) work
    → IsGoodWork g work → IsRightBy setting g l all all work
begun setting g l all work stands good = record {
  course = Attempt [];
  stands = stands;
  good = good;
  on = λ ends after rest. record { course = rest.last; so_far = rest.goes; end = rest.end };
  back = λ ends after line. record { last = line.course; goes = line.so_far; end = line.end };
}

-- an event that answers
pub one_more : (one : OneCourseLaw) (setting : Setting) (g : Control) (l : Line) (all : List Event2) (event : Event2)
    (events : List Event2) (work after : LineAtWork) → IsRightBy setting g l all (event ∷ events) work
    → IsAnswer setting g l event work after → IsRightBy setting g l all events after
one_more one setting g l all event events work after right answer =
    let led = answer.leads right.course right.stands in record {
      course = led.later;
      stands = led.stands;
      good = answer.good;
      on = λ ends later rest.
          right.on ends later (record { last = rest.last; goes = (led.later, led.is, rest.goes); end = rest.end });
      back = λ ends later line.
          let rest = right.back ends later line in record {
            last = rest.last;
            goes = subst (λ (c : Course). Goes setting g l c events rest.last)
                (one setting (next g l right.course) right.course event led.later rest.goes.0 led.is rest.goes.1) rest.goes.2;
            end = rest.end;
          };
    }

-- one that does not
pub no_more : (setting : Setting) (g : Control) (l : Line) (all : List Event2) (event : Event2) (events : List Event2) (work : LineAtWork)
    → IsRightBy setting g l all (event ∷ events) work → IsNoAnswer setting g l event work → AreOfNoLine setting g l all
no_more setting g l all event events work right fails = record {
  never = λ ends after line.
      let rest = right.back ends after line in
      fails.never right.course rest.goes.0 right.stands rest.goes.1;
}

-- the same at a place of its events
pub more_at : (one : OneCourseLaw) (setting : Setting) (g : Control) (l : Line) (events : List Event2) (place : ℕ) (event : Event2)
    (work after : LineAtWork) → slice_get events place ≡ Some event → IsRightBy setting g l events (drop place events) work
    → IsAnswer setting g l event work after → IsRightBy setting g l events (drop (place + 1) events) after
more_at one setting g l events place event work after at right answer =
    let next : suc place ≡ place + 1 = omega arith in
    subst (λ n. IsRightBy setting g l events (drop n events) after) next
    (one_more one setting g l events event (drop (suc place) events) work after
    (subst (λ (rest : List Event2). IsRightBy setting g l events rest work) (drop_at events place event at) right) answer)

pub none_at : (setting : Setting) (g : Control) (l : Line) (events : List Event2) (place : ℕ) (event : Event2) (work : LineAtWork)
    → slice_get events place ≡ Some event → IsRightBy setting g l events (drop place events) work
    → IsNoAnswer setting g l event work → AreOfNoLine setting g l events
none_at setting g l events place event work at right fails =
    no_more setting g l events event (drop (suc place) events) work
    (subst (λ (rest : List Event2). IsRightBy setting g l events rest work) (drop_at events place event at) right) fails

pub all_at : (setting : Setting) (g : Control) (l : Line) (events : List Event2) (place : ℕ) (work : LineAtWork)
    → length events ≤ place → IsRightBy setting g l events (drop place events) work → IsRightBy setting g l events [] work
all_at setting g l events place work past right =
    subst (λ (rest : List Event2). IsRightBy setting g l events rest work) (drop_past events place past) right

-- beside an event stands the descriptor of its element
pub beside_at : (access : Element → Descriptor) (events : List Event2) (descriptors : List Descriptor) (place : ℕ) (event : Event2)
    (d : Descriptor) → AreBeside access events descriptors → slice_get events place ≡ Some event
    → slice_get descriptors place ≡ Some d → IsBeside access event d
beside_at access events descriptors place (Core (Seen e)) d are at there =
    let same : access e ≡ d = one (access e) d (sym (are.on place e at) ∙ there) in
    (same, subst IsAdmissible same (are.admissible place e at))
  where
    one : (a b : Descriptor) → Some a ≡ Some b → a ≡ b
    one a b e = cc
beside_at access events descriptors place (Core (Missing segno by)) d are at there = tt
beside_at access events descriptors place (Entry number) d are at there = tt

pub wrong_line : (setting : Setting) (g : Control) (l : Line) (events : List Event2) (ends : Result2) → AreOfNoLine setting g l events
    → IsWrongLine setting g l events ends
wrong_line setting g l events ends fails = record { never = λ after line. fails.never ends after line }
