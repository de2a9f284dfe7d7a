-- A line under way goes on by one event, and a part by one line.
use Rattle.std.proofs.Common.{◌≡◌, inl, inr, ℕ, List, [], ◌∷◌, ◌++◌, refl, subst}
use Rattle.mx_upcall.specs.Control.{Control}
use Rattle.mx_script.specs.declared.lines.Line.{Line}
use Rattle.mx_transcript.specs.declared.transcripts.Event2.{Event2}
use Rattle.mx_transcript.specs.Asking.{next}
use Rattle.mx_transcript.specs.Courses.{Course, Attempt, Answer}
use Rattle.mx_transcript.specs.Events.{IsEvent}
use Rattle.mx_transcript.specs.Lines.{Goes, IsLine}
use Rattle.mx_transcript.specs.Parts.{AreDone}
use Rattle.mx_transcript.specs.Settings.{Setting}
use Rattle.mx_transcript.specs.SoFar.{ReferenceLaw, FillLaw, MissLaw, CallLaw, LineLaw}
use Rattle.mx_transcript.specs.Transcripts.{Step}

-- one more event, whichever it is
pub goes_on : (s : Setting) (g : Control) (line : Line) (first : Course) (events : List Event2) (before : Course)
    (event : Event2)
    (after : Course) → Goes s g line first events before → IsEvent s (next g line before) before event after
    → Goes s g line first (events ++ event ∷ []) after
goes_on s g line first [] before event after so_far is =
    (after, subst (λ (c : Course). IsEvent s (next g line c) c event after) so_far is, refl)
goes_on s g line first (other ∷ events) before event after so_far is =
    (so_far.0, so_far.1, goes_on s g line so_far.0 events before event after so_far.2 is)

pub reference_law : ReferenceLaw
reference_law s g line events course asked e so_far asks right =
    goes_on s g line (Attempt []) events course _ _ so_far (inl (record {
      asked = asked;
      next = asks;
      right = right;
      leads = refl;
    }))

pub fill_law : FillLaw
fill_law s g line events entry filled asked e value so_far asks right granted =
    goes_on s g line (Attempt []) events (Answer entry filled) _ _ so_far (inr (record {
      asked = asked;
      next = asks;
      right = right;
      value = value;
      granted = granted;
      entry = entry;
      filled = filled;
      since = refl;
      leads = refl;
    }))

pub miss_law : MissLaw
miss_law s g line events course asked segno by so_far asks =
    goes_on s g line (Attempt []) events course _ _ so_far (record { asked = asked; next = asks; leads = refl })

pub call_law : CallLaw
call_law s g line events course entry number so_far asks maker there =
    goes_on s g line (Attempt []) events course _ _ so_far (record {
      entry = entry;
      there = there;
      maker = maker;
      next = asks;
      leads = refl;
    })

-- one more line
pub line_added : (s : Setting) (start now after : Control) (lines left : List (ℕ × Line)) (steps : List Step)
    (line : ℕ × Line)
    (step : Step) → AreDone s start lines steps (line ∷ left) now → step.0 ≡ line.0
    → IsLine s now line.1 step.1 step.2 after
    → AreDone s start lines (steps ++ step ∷ []) left after
line_added s start now after [] left [] line step are number is = let e = are.0 in absurd cc
line_added s start now after (first ∷ lines) left [] line step are number is =
    let head : line ≡ first = cc in
    let tail : left ≡ lines = cc in (
      subst (λ (l : ℕ × Line). step.0 ≡ l.0) head number,
      after,
      subst (λ (l : ℕ × Line). IsLine s start l.1 step.1 step.2 after) head
          (subst (λ (r : Control). IsLine s r line.1 step.1 step.2 after) are.1 is),
      (tail, refl),
    )
line_added s start now after [] left (made ∷ steps) line step are number is = absurd are
line_added s start now after (first ∷ lines) left (made ∷ steps) line step are number is =
    (are.0, are.1, are.2, line_added s are.1 now after lines left steps line step are.3 number is)

pub line_law : LineLaw
line_law s start now after lines left steps number line events course ends part end =
    line_added s start now after lines left steps (number, line) (number, events, ends) part.done refl
    (record { course = course; so_far = part.at_work; end = end })
