-- A miss is settled: the line begins anew, and its process keeps what its type says.
use Rattle.std.proofs.Common.{◌≡◌, ℕ, ◌<◌, ◌≤◌, map, List, [], ◌∷◌, ◌++◌, append-nil, Option, Some, None, refl, sym, ◌∙◌, ap, subst}
use Rattle.std.proofs.lemmas.List.{map-append}
use Rattle.std.specs.Prelude.{IsSome}
use Rattle.mx_audit.specs.Accounts.{Account}
use Rattle.mx_closing.specs.Views.{kept_in, marked_in, view_in}
use Rattle.mx_core.specs.declared.elements.Event.TheVariants.{Missing}
use Rattle.mx_core.specs.declared.elements.Kept.TheVariants.{Missed as WasMissed}
use Rattle.mx_core.specs.declared.words.Triple.{Triple}
use Rattle.mx_desc.specs.Passes.{PassValue}
use Rattle.mx_call.specs.Registers.{Registers}
use Rattle.mx_line.proofs.FillLaws.{due_fill}
use Rattle.mx_line.specs.AtWork.{IsCome}
use Rattle.mx_line.specs.Fills.{write_of}
use Rattle.mx_line.specs.declared.fills.Fill.{Fill}
use Rattle.mx_line.specs.Operands.{IsGoodProgress}
use Rattle.mx_line.specs.declared.operands.Progress.{Progress}
use Rattle.mx_line.specs.declared.operands.Progress.TheVariants.{Before, Walking, AtLink, Waiting, Filling}
use Rattle.mx_line.specs.declared.processes.Process.{Process as LineState}
use Rattle.mx_office.specs.Serving.{HasSettled, told_to}
use Rattle.mx_request.specs.declared.requests.Request.TheVariants.{Logout}
use Rattle.mx_script.specs.Sessions.{Outline}
use Rattle.mx_script.specs.declared.lines.Line.{Line}
use Rattle.mx_script.specs.declared.lines.Line.TheVariants.{Ask}
use Rattle.mx_state.specs.declared.journal.Entry as journaled
use Rattle.mx_ties.proofs.WorkingLaws.{miss_law, missed_fill_law}
use Rattle.mx_ties.specs.AtWork.{gone_on}
use Rattle.mx_ties.specs.Views.{Marked, Missed, View}
use Rattle.mx_ties.specs.Working.{IsWorking}
use Rattle.mx_transcript.specs.Asking.{next}
use Rattle.mx_transcript.specs.Courses.{Course, Attempt, Answer}
use Rattle.mx_transcript.specs.Next.{Next, Asks, Fills, Calls, Ends, Nowhere}
use Rattle.mx_rule.specs.declared.views.PassView.{PassView}
use Rattle.mx_transcript.specs.declared.transcripts.Event2.{Event2}
use Rattle.mx_transcript.specs.declared.transcripts.Event2.TheVariants.{Core}
use Rattle.mx_process.proofs.AuditLaws.{audited_same}
use Rattle.mx_process.proofs.PlanLaws.{left_by}
use Rattle.mx_process.proofs.ProcessLaws.{fitting_before, later, same_within}
use Rattle.mx_process.proofs.WorkLaws.{come_on, unfilled}
use Rattle.mx_upcall.specs.Control.{Control}
use Rattle.mx_upcall.specs.Soundness.{IsPackableControl}
use Rattle.mx_process.specs.Plans.{left_of}
use Rattle.mx_process.specs.Processes.{ProcessValue, AsksFor, AsksIn, IsAtWork, IsFittingAt, IsMissing, IsProcess, IsStill, Stands, at_work, having_done, known_of}
use Rattle.mx_process.specs.Settling.{IsSettled, again}
use Rattle.mx_process.specs.Turns.{HasEvent}
use Rattle.mx_process.specs.declared.misses.Miss.{Miss}

-- a view with a miss more, when more was told
abbrev missed_view : View → Miss → List Marked → ℕ → View
missed_view v m more floor = record v {
  trace = v.trace ++ Missed m.segno m.by ∷ [];
  history = v.history ++ more;
  floor = floor;
}

-- the line begins anew
module _ (x : Outline) (setup : List journaled.Entry) (state new : LineState) (m : Miss) (line : Line)
    (o o' : PassValue journaled.Entry) where
  pub begins_anew : IsMissing x setup state m line o → HasSettled m.segno o o'
      → HasEvent state (Core (Missing m.segno m.by)) (again state.progress) new → IsAtWork x setup new line (known_of o')
  begins_anew b s has = by_progress state.progress refl b.asks b.before.come has
    where
      traced : map kept_in o'.view.trace ≡ map kept_in b.front ++ Missed m.segno m.by ∷ []
      traced = ap (map kept_in) (s.grown.trace ∙ b.last) ∙ map-append kept_in b.front (WasMissed m.segno m.by ∷ [])

      viewed : view_in o' ≡ missed_view (view_in (having_done b.front o)) m s.grown.more o'.view.floor
      viewed = λ i. record { trace = traced i; history = s.grown.history i; floor = o'.view.floor; amount = s.amount i }

      -- it has the miss, and stands here
      on : (course later : Course) (progress : Progress)
          → IsWorking x setup o.view.process (gone_on (at_work x o.view.process state line course) (Core (Missing m.segno m.by)) later)
          (missed_view (view_in (having_done b.front o)) m s.grown.more o'.view.floor) (told_to o')
          → IsCome state.control line later progress → ((fill : Fill) → progress ≡ Filling fill → line ≡ Ask Logout → ⊥)
          → HasEvent state (Core (Missing m.segno m.by)) progress new → IsAtWork x setup new line (known_of o')
      on course later progress working come filled has =
          come_on x setup line state new (known_of o') course later (Core (Missing m.segno m.by)) progress
          (subst (λ q. IsWorking x setup q (gone_on (at_work x q state line course) (Core (Missing m.segno m.by)) later) (view_in o') (told_to o'))
          (sym s.grown.process) (subst (λ (v : View). IsWorking x setup o.view.process (gone_on (at_work x o.view.process state line course)
          (Core (Missing m.segno m.by)) later) v (told_to o')) (sym viewed) working)) come filled has

      by_next : (asks : Next) → next state.control line b.before.course ≡ asks → AsksIn m.segno asks
          → HasEvent state (Core (Missing m.segno m.by)) Before new → IsAtWork x setup new line (known_of o')
      by_next (Asks asked) e is has =
          on b.before.course (Attempt []) Before
          (miss_law x setup o.view.process (at_work x o.view.process state line b.before.course) (view_in (having_done b.front o)) (told_to (having_done b.front o)) (told_to o')
          asked m.segno m.by o'.view.floor s.grown.more (λ unspoilt. e) b.news (s.floor b.front m.by b.last) s.grown.floor
          (s.told b.front m.by b.last) s.grown.told b.before.working) (refl, tt) (unfilled Before line refl) has
      by_next (Fills asked) e is has = absurd is
      by_next (Calls ring request) e is has = absurd is
      by_next (Ends ends last) e is has = absurd is
      by_next Nowhere e is has = absurd is

      -- a write that was due is due again
      by_course : (course : Course) (fill : Fill)
          → IsWorking x setup o.view.process (at_work x o.view.process state line course) (view_in (having_done b.front o)) (told_to (having_done b.front o))
          → IsCome state.control line course (Filling fill) → (write_of fill).segno ≡ m.segno → state.progress ≡ Filling fill
          → HasEvent state (Core (Missing m.segno m.by)) (Filling fill) new → IsAtWork x setup new line (known_of o')
      by_course (Attempt seen) fill working come is was has = absurd come.0
      by_course (Answer entry filled) fill working come is was has =
          on (Answer entry filled) (Answer entry filled) (Filling fill)
          (subst (λ n. IsWorking x setup o.view.process (gone_on (at_work x o.view.process state line (Answer entry filled)) (Core (Missing n m.by)) (Answer entry filled))
          (missed_view (view_in (having_done b.front o)) (record { segno = n; by = m.by }) s.grown.more o'.view.floor) (told_to o')) is
          (missed_fill_law x setup o.view.process (at_work x o.view.process state line (Answer entry filled)) entry filled
          (view_in (having_done b.front o)) (told_to (having_done b.front o)) (told_to o') (write_of fill) m.by o'.view.floor s.grown.more
          (Answer entry filled) (λ unspoilt. due_fill state.control line entry filled fill come)
          (subst (λ n. told_to (having_done b.front o) n < m.by) (sym is) b.news) (s.floor b.front m.by b.last) s.grown.floor
          (subst (λ n. m.by ≤ told_to o' n) (sym is) (s.told b.front m.by b.last)) s.grown.told working)) come
          (λ other due. b.before.filled fill was) has

      by_progress : (progress : Progress) → state.progress ≡ progress → AsksFor m.segno state.control line progress
          → IsCome state.control line b.before.course progress
          → HasEvent state (Core (Missing m.segno m.by)) (again progress) new → IsAtWork x setup new line (known_of o')
      by_progress (Filling fill) e is come has = by_course b.before.course fill b.before.working come is e has
      by_progress Before e is come has = by_next (next state.control line b.before.course) refl (is b.before.course come) has
      by_progress (Walking walk) e is come has = by_next (next state.control line b.before.course) refl (is b.before.course come) has
      by_progress (AtLink place) e is come has = by_next (next state.control line b.before.course) refl (is b.before.course come) has
      by_progress Waiting e is come has = by_next (next state.control line b.before.course) refl (is b.before.course come) has

-- then it has come as far as can be stored
good_again : (g : Registers) (progress : Progress) → IsGoodProgress g progress → IsGoodProgress g (again progress)
good_again g (Filling fill) good = good
good_again g Before good = tt
good_again g (Walking walk) good = tt
good_again g (AtLink place) good = tt
good_again g Waiting good = tt

fitting_again : (progress : Progress) → IsFittingAt progress → IsFittingAt (again progress)
fitting_again (Filling fill) fitting = fitting
fitting_again Before fitting = fitting
fitting_again (Walking walk) fitting = fitting_before
fitting_again (AtLink place) fitting = fitting_before
fitting_again Waiting fitting = fitting_before

-- A miss of a process is settled.
module _ (x : Outline) (setup : List journaled.Entry) (accounts : List Account) (script : List Line) (memory : List Triple)
    (v : ProcessValue) (m : Miss) (state : LineState) (o : PassValue journaled.Entry) where
  pub settled_process : IsProcess x setup accounts script memory v → v.missing ≡ Some m → HasSettled m.segno v.pass o
      → HasEvent v.state (Core (Missing m.segno m.by)) (again v.state.progress) state
      → IsProcess x setup accounts script memory (record { state = state; missing = None; pass = o; account = v.account })
  settled_process is e s has =
      later x setup accounts script memory memory v (record { state = state; missing = None; pass = o; account = v.account }) is
      s.grown.process has.first [] (has.steps ∙ sym (append-nil v.state.recording.steps))
      (is.same ∙ sym s.grown.memory) (s.grown.stage ∙ is.outside)
      (same_within x v.pass.view.process v.state state has.first has.steps is.within)
      (subst IsPackableControl (sym has.control) is.packable)
      (subst (IsGoodProgress state.control.registers) (sym has.progress)
      (subst (λ (g : Control). IsGoodProgress g.registers (again v.state.progress)) (sym has.control)
      (good_again v.state.control.registers v.state.progress is.good)))
      (subst IsFittingAt (sym has.progress) (fitting_again v.state.progress is.fitting))
      (subst (λ (l : List (ℕ × Line)). Stands x setup state None l o)
      (λ i. left_by x (sym s.grown.process i) (sym has.first i) (sym has.steps i))
      (by_left (left_of x v.pass.view.process v.state)
      (subst (λ (z : Option Miss). Stands x setup v.state z (left_of x v.pass.view.process v.state) v.pass) e is.stands)))
      (audited_same x v.pass.view.process v.pass.view.process accounts v.state state v.account v.account has.first has.steps refl
      refl is.audited)
    where
      by_left : (left : List (ℕ × Line)) → Stands x setup v.state (Some m) left v.pass → Stands x setup state None left o
      by_left [] b = absurd b
      by_left (line ∷ left) b = begins_anew x setup v.state state m line.1 v.pass o b s has

  pub is_settled : (old : ProcessValue) → IsStill old v → IsProcess x setup accounts script memory v → v.missing ≡ Some m
      → HasSettled m.segno v.pass o → HasEvent v.state (Core (Missing m.segno m.by)) (again v.state.progress) state
      → IsSettled old (record { state = state; missing = None; pass = o; account = v.account })
  is_settled old still is e s has =
      by_left (left_of x v.pass.view.process v.state)
      (subst (λ (z : Option Miss). Stands x setup v.state z (left_of x v.pass.view.process v.state) v.pass) e is.stands)
    where
      by_left : (left : List (ℕ × Line)) → Stands x setup v.state (Some m) left v.pass
          → IsSettled old (record { state = state; missing = None; pass = o; account = v.account })
      by_left [] b = absurd b
      by_left (line ∷ left) b = record {
        miss = m;
        pending = sym still.missing ∙ e;
        settled = refl;
        first = has.first ∙ still.first;
        control = has.control ∙ still.control;
        steps = has.steps ∙ still.steps;
        events = has.events ∙ ap (λ (l : List Event2). l ++ Core (Missing m.segno m.by) ∷ []) still.events;
        anew = has.progress ∙ ap again still.progress;
        process = s.grown.process ∙ ap (λ (z : PassView journaled.Entry). z.process) still.view;
        trace = s.grown.trace ∙ ap (λ (z : PassView journaled.Entry). z.trace) still.view;
        amount = s.amount ∙ still.amount;
        more = s.grown.more;
        history = s.grown.history ∙ ap (λ (z : PassView journaled.Entry). marked_in z.history ++ s.grown.more) still.view;
        floor = s.floor b.front m.by b.last;
        told = s.told b.front m.by b.last;
        account = still.account;
      }

-- a miss is to be settled
pub pending : (old v : ProcessValue) → IsStill old v → IsSome old.missing → v.missing ≡ None → ⊥
pending old v still some none = by_missing old.missing some (sym still.missing ∙ none)
  where
    by_missing : (missing : Option Miss) → IsSome missing → missing ≡ None → ⊥
    by_missing None some e = nobody some
      where
        nobody : IsSome {T = Miss} None → ⊥
        nobody s = cc
    by_missing (Some m) some e = cc
