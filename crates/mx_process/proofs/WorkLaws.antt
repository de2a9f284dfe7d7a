-- A line at work goes on by an element, and ends.
use Rattle.std.proofs.Common.{◌≡◌, ℕ, suc, ◌+◌, ◌≤◌, inl, false, List, [], ◌∷◌, ◌++◌, drop, length, refl, sym, ◌∙◌, ap, subst, arith}
use Rattle.mx_core.specs.declared.elements.Element.{Element}
use Rattle.mx_core.specs.declared.elements.Event.TheVariants.{Seen}
use Rattle.mx_core.specs.declared.elements.Outcome.TheVariants.{Read}
use Rattle.mx_line.proofs.SeatLaws.{left_more}
use Rattle.mx_line.specs.AtWork.{IsCome, StandsAt, beside}
use Rattle.mx_line.specs.Processes.{Takes}
use Rattle.mx_line.specs.declared.asking.End.{End}
use Rattle.mx_line.specs.declared.at_work.LineAtWork.{LineAtWork}
use Rattle.mx_line.specs.declared.at_work.LineAtWork.TheVariants as works
use Rattle.mx_line.specs.declared.fills.Fill.{Fill}
use Rattle.mx_line.specs.declared.operands.Progress.{Progress}
use Rattle.mx_line.specs.declared.operands.Progress.TheVariants.{Before, Filling}
use Rattle.mx_line.specs.declared.processes.Process.{Process as LineState}
use Rattle.mx_request.specs.declared.requests.Request.TheVariants.{Logout}
use Rattle.mx_script.specs.Sessions.{Outline}
use Rattle.mx_script.specs.declared.lines.Line.{Line}
use Rattle.mx_script.specs.declared.lines.Line.TheVariants.{Ask}
use Rattle.mx_sdw.specs.Descriptors.{Descriptor}
use Rattle.mx_state.specs.declared.journal.Entry as journaled
use Rattle.mx_ties.proofs.WorkingLaws.{see_law, end_law, last_law}
use Rattle.mx_ties.specs.AtWork.{AtWork, gone_on, next_line}
use Rattle.mx_ties.specs.Closed.{followed}
use Rattle.mx_ties.specs.Working.{IsEnding, IsWorking, HasWorked}
use Rattle.mx_transcript.proofs.Ends.{next_never}
use Rattle.mx_transcript.specs.Asking.{next}
use Rattle.mx_transcript.specs.Courses.{Course, Attempt, seen_in}
use Rattle.mx_transcript.specs.Elements.{IsJudged}
use Rattle.mx_transcript.specs.Lines.{IsEnd}
use Rattle.mx_transcript.specs.Next.{Next, Reference, Asks, Ends}
use Rattle.mx_transcript.specs.Scripts.{lines_of}
use Rattle.mx_transcript.specs.Settings.{Setting}
use Rattle.mx_transcript.specs.Standing.{own_setting}
use Rattle.mx_transcript.specs.Transcripts.{Step}
use Rattle.mx_transcript.specs.declared.transcripts.Event2.{Event2}
use Rattle.mx_transcript.specs.declared.transcripts.Event2.TheVariants.{Core}
use Rattle.mx_transcript.specs.declared.transcripts.Result2.{Result2}
use Rattle.mx_upcall.specs.Changes.{changed}
use Rattle.mx_upcall.specs.Control.{Control}
use Rattle.mx_process.proofs.KnownLaws.{seen_known}
use Rattle.mx_process.proofs.PlanLaws.{are_lines, left_next, number_next, place_next, plan_by, planned_next, rest_by}
use Rattle.mx_process.specs.Plans.{IsPlanned, left_of, number_in, place_in}
use Rattle.mx_process.specs.Processes.{Known, IsAtWork, IsBefore, at_work}
use Rattle.mx_process.specs.Turns.{HasEvent, HasEnd}

-- before a line no write is due
pub unfilled : (progress : Progress) (line : Line) → progress ≡ Before → (fill : Fill) → progress ≡ Filling fill → line ≡ Ask Logout → ⊥
unfilled progress line before fill due out = apart fill (sym before ∙ due)
  where
    apart : (fill : Fill) → Before ≡ Filling fill → ⊥
    apart fill e = cc

-- the line at work, after these events
abbrev with_events : AtWork → List Event2 → AtWork
with_events w events = record w { events = events }

-- a line that ended so: the next one is at work, or none is left
module _ (x : Outline) (setup : List journaled.Entry) (line : Line) (old new : LineState) (k : Known) (course : Course)
    (events : List Event2) (end : End) where
  abbrev ended_at : AtWork
  ended_at = with_events (at_work x k.process old line course) events

  -- however it came to its end
  pub line_over : 1 ≤ k.process → IsPlanned x k.process old → IsWorking x setup k.process ended_at k.view k.told
      → IsEnding x setup k.process ended_at k.view end.ends (changed old.control end.after) → HasEnd old events end new
      → IsBefore x setup new (left_of x k.process new) k
  line_over some planned working ending ended =
      subst (λ (l : List (ℕ × Line)). IsBefore x setup new l k) (sym left_is)
      (by_left (drop (suc (place_in x k.process old)) (lines_of x k.process)) refl)
    where
      after : Control
      after = changed old.control end.after

      step : Step
      step = (number_in old, events, end.ends)

      left_is : left_of x k.process new ≡ drop (suc (place_in x k.process old)) (lines_of x k.process)
      left_is = left_next x k.process old new step ended.first ended.steps

      by_left : (left : List (ℕ × Line)) → drop (suc (place_in x k.process old)) (lines_of x k.process) ≡ left
          → IsBefore x setup new left k
      by_left [] e =
          subst (λ (steps : List Step). HasWorked x setup k.process steps k.view) (sym ended.steps)
          (last_law x setup k.process ended_at k.view k.told end.ends after e (are_lines x k.process old (step ∷ []) planned)
          ending working)
      by_left ((number, other) ∷ left) e =
          let begun = end_law x setup k.process ended_at number other left k.view k.told
          end.ends after e ending working in
          let numbered : number ≡ number_in new
          = number_next x k.process new some (planned_next x k.process old new step ended.first ended.steps planned) number other
          left (left_is ∙ e) in
          let rest : left ≡ drop (suc (place_in x k.process new)) (lines_of x k.process)
          = sym (ap (λ n. drop (suc n) (lines_of x k.process)) (place_next x k.process old new step ended.first ended.steps)
          ∙ left_more (suc (place_in x k.process old)) (lines_of x k.process) (number, other) left e) in
          let same : next_line ended_at end.ends after number other left
          ≡ at_work x k.process new other (Attempt [])
          = λ i. record {
            ran = plan_by x k.process (sym ended.first i);
            steps = sym ended.steps i;
            number = numbered i;
            line = other;
            left = rest i;
            now = sym ended.control i;
            events = sym ended.idle i;
            course = Attempt [];
          } in
          record {
            course = Attempt [];
            working = subst (λ (w : AtWork). IsWorking x setup k.process w k.view k.told) same begun;
            come = subst (λ (r : Progress). IsCome new.control other (Attempt []) r) (sym ended.progress) (refl, tt);
            filled = unfilled new.progress other ended.progress;
          }

  -- it asks for its end
  pub line_ended : 1 ≤ k.process → IsPlanned x k.process old → IsWorking x setup k.process ended_at k.view k.told
      → next old.control line course ≡ Ends end.ends (changed old.control end.after) → HasEnd old events end new
      → IsBefore x setup new (left_of x k.process new) k
  line_ended some planned working is ended = line_over some planned working ending ended
    where
      after : Control
      after = changed old.control end.after

      same_end : (asks : Next) → asks ≡ Ends end.ends after → (d : Element → Descriptor)
          → IsEnd (own_setting x (followed setup k.view.history) k.view.floor k.process d) old.control asks end.ends after
      same_end asks e d =
          subst (λ (a : Next). IsEnd (own_setting x (followed setup k.view.history) k.view.floor k.process d) old.control a end.ends after)
          (sym e) (refl, refl)

      ending : IsEnding x setup k.process ended_at k.view end.ends after
      ending = record {
        end = λ unspoilt d. same_end (next old.control line course) is d;
        reached = λ full. absurd (next_never old.control line course after (is ∙ ap (λ (r : Result2). Ends r after) full));
      }

-- a line at work that has one event more, and goes on
module _ (x : Outline) (setup : List journaled.Entry) (line : Line) (old new : LineState) (k : Known) (course later : Course)
    (event : Event2) (progress : Progress) where
  pub come_on : IsWorking x setup k.process (gone_on (at_work x k.process old line course) event later) k.view k.told
      → IsCome old.control line later progress → ((fill : Fill) → progress ≡ Filling fill → line ≡ Ask Logout → ⊥)
      → HasEvent old event progress new → IsAtWork x setup new line k
  come_on working come filled has =
      let same : gone_on (at_work x k.process old line course) event later ≡ at_work x k.process new line later
      = λ i. record {
        ran = plan_by x k.process (sym has.first i);
        steps = sym has.steps i;
        number = sym has.first i + length (sym has.steps i);
        line = line;
        left = rest_by x k.process (sym has.first i) (sym has.steps i);
        now = sym has.control i;
        events = sym has.events i;
        course = later;
      } in
      record {
        course = later;
        working = subst (λ (w : AtWork). IsWorking x setup k.process w k.view k.told) same working;
        come = subst (λ (g : Control). IsCome g line later new.progress) (sym has.control)
            (subst (IsCome old.control line later) (sym has.progress) come);
        filled = λ fill due. filled fill (sym has.progress ∙ due);
      }

-- The element for which a line asks, on this descriptor, from the floor on.
module _ (x : Outline) (setup : List journaled.Entry) (line : Line) (old : LineState) (k : Known) (asked : Reference)
    (e : Element) (d : Descriptor) (floor : ℕ) where
  -- what leads to it
  pub record IsNext : Type 0 where
    pub work : IsAtWork x setup old line k
    pub asks : (course : Course) → IsCome old.control line course old.progress
        → next old.control line course ≡ Asks asked
    pub right : IsJudged asked d e
    pub point : e.point ≡ k.view.floor
    pub higher : k.view.floor ≤ floor
    pub stamp : (value writer stamp : ℕ) → e.outcome ≡ Read value writer stamp → stamp ≤ floor

  abbrev later_in : IsNext → Course
  later_in n = Attempt (seen_in n.work.course ++ beside e d ∷ [])

  working_seen : (n : IsNext) → IsWorking x setup k.process
      (gone_on (at_work x k.process old line n.work.course) (Core (Seen e)) (later_in n))
      (seen_known k (beside e d) floor).view k.told
  working_seen n =
      let point = n.point in
      let higher = n.higher in
      see_law x setup k.process (at_work x k.process old line n.work.course) k.view k.told asked (beside e d) floor
      (λ unspoilt. (n.asks n.work.course n.work.come, n.right)) (omega (arith, point)) (omega (arith, point, higher)) n.stamp n.work.working

  abbrev setting : Setting
  setting = record { process = 0; journal = []; full = false; descriptor = λ other. d }

  stands_seen : (n : IsNext) (work : LineAtWork) → Takes old.control line old.progress e d work
      → StandsAt old.control line (later_in n) work
  stands_seen n work takes =
      takes.taken setting refl n.work.course (later_in n) n.work.come
      (inl (record { asked = asked; next = n.asks n.work.course n.work.come; right = n.right; leads = refl }))

  -- no write is due then
  pub never_fills : IsNext → (fill : Fill) → Takes old.control line old.progress e d (works.At (Filling fill)) → ⊥
  never_fills n fill takes = (stands_seen n (works.At (Filling fill)) takes).0

  -- the line goes on
  pub line_goes_on : (new : LineState) (progress : Progress) → IsNext
      → Takes old.control line old.progress e d (works.At progress) → HasEvent old (Core (Seen e)) progress new
      → IsAtWork x setup new line (seen_known k (beside e d) floor)
  line_goes_on new progress n takes has =
      come_on x setup line old new (seen_known k (beside e d) floor) n.work.course (later_in n) (Core (Seen e)) progress
      (working_seen n) (stands_seen n (works.At progress) takes)
      (λ fill due. absurd
      (never_fills n fill (subst (λ (r : Progress). Takes old.control line old.progress e d (works.At r)) due takes))) has

  -- or ends
  pub line_ends : (new : LineState) (end : End) → IsNext → 1 ≤ k.process → IsPlanned x k.process old
      → Takes old.control line old.progress e d (works.Ended end)
      → HasEnd old (old.recording.events ++ Core (Seen e) ∷ []) end new
      → IsBefore x setup new (left_of x k.process new) (seen_known k (beside e d) floor)
  line_ends new end n some planned takes ended =
      line_ended x setup line old new (seen_known k (beside e d) floor) (later_in n)
      (old.recording.events ++ Core (Seen e) ∷ []) end some planned (working_seen n) (stands_seen n (works.Ended end) takes) ended
