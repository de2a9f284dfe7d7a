-- What a process's type says holds after a write that a reply asks for.
use Rattle.std.proofs.Common.{◌≡◌, ℕ, ◌+◌, ◌<◌, List, [], ◌∷◌, ◌++◌, length, Option, None, refl, sym, ◌∙◌, ap, subst, arith}
use Rattle.mx_audit.specs.Accounts.{Account}
use Rattle.mx_core.specs.declared.elements.Event.TheVariants.{Seen}
use Rattle.mx_core.specs.declared.words.Triple.{Triple}
use Rattle.mx_desc.specs.Passes.{PassValue}
use Rattle.mx_line.specs.declared.fills.Fill.{Fill}
use Rattle.mx_line.specs.declared.operands.Progress.{Progress}
use Rattle.mx_line.specs.declared.operands.Progress.TheVariants.{Before, Walking, AtLink, Waiting, Filling}
use Rattle.mx_line.specs.declared.at_work.LineAtWork.{LineAtWork}
use Rattle.mx_line.specs.declared.at_work.LineAtWork.TheVariants as works
use Rattle.mx_line.specs.declared.processes.Process.{Process as LineState}
use Rattle.mx_line.specs.Operands.{IsGoodProgress}
use Rattle.mx_request.specs.declared.requests.Request.TheVariants.{Logout}
use Rattle.mx_script.specs.Sessions.{Outline}
use Rattle.mx_script.specs.declared.lines.Line.{Line}
use Rattle.mx_script.specs.declared.lines.Line.TheVariants.{Ask}
use Rattle.mx_sdw.specs.declared.denials.Denial.{Denial}
use Rattle.mx_state.specs.declared.journal.Entry as journaled
use Rattle.mx_transcript.specs.Transcripts.{Step}
use Rattle.mx_transcript.specs.declared.transcripts.Event2.{Event2}
use Rattle.mx_transcript.specs.declared.transcripts.Event2.TheVariants.{Core}
use Rattle.mx_upcall.specs.Soundness.{IsPackableControl}
use Rattle.mx_process.proofs.AttemptLaws.{IsOut, going_process, line_behind}
use Rattle.mx_process.proofs.HeedLaws.{heeded_attended, heeded_cut}
use Rattle.mx_process.proofs.PlanLaws.{countable_next, sayable_next}
use Rattle.mx_process.proofs.ProcessLaws.{fitting_before}
use Rattle.mx_process.specs.Filling.{CameTo, HasWritten, HasWrote, IsDue, IsOnward, IsOnwardAt, IsWriting, StandsIn}
use Rattle.mx_process.specs.Heeding.{HasHeeded}
use Rattle.mx_process.specs.Plans.{MayBeCut}
use Rattle.mx_process.specs.Processes.{ProcessValue, IsAtLine, IsAtWork, IsFitting, IsFittingAt, IsProcess, Stands, known_of}
use Rattle.mx_process.specs.Turns.{Comes, Ends, Inside, IsSameLine, IsUntold, inside}
use Rattle.mx_process.specs.declared.filling.Wrote.TheVariants as wrote
use Rattle.mx_process.specs.declared.misses.Miss.{Miss}
use Rattle.mx_process.specs.declared.turns.Turn.TheVariants as turn

-- A write of a process is due, and can be made.
module _ (x : Outline) (setup : List journaled.Entry) (accounts : List Account) (script : List Line) (memory : List Triple)
    (v w : ProcessValue) (line : Line) (same : v ≡ w) (is : IsProcess x setup accounts script memory v)
    (at : (number : ℕ) × IsAtLine x w number line) where
  pub write_begins : IsDue w.state.progress → w.missing ≡ None → IsWriting x setup v.state line (known_of v.pass)
  write_begins due settled =
      let there = subst (λ (z : ProcessValue). (number : ℕ) × IsAtLine x z number line) (sym same) at in
      let number : ℕ = there.0 in
      let next : IsAtLine x v number line = there.1 in
      record {
        sayable = sayable_next x v.pass.view.process v.state is.some is.planned number line next.left is.session next.at;
        due = subst (λ (z : ProcessValue). IsDue z.state.progress) (sym same) due;
        packable = is.packable;
        good = is.good;
        some = is.some;
        planned = is.planned;
        countable = countable_next x v.pass.view.process v.state is.some is.planned number line next.left is.session next.at;
        work = subst (λ (m : Option Miss). Stands x setup v.state m ((number, line) ∷ next.left) v.pass)
            (ap (λ (z : ProcessValue). z.missing) same ∙ settled)
            (subst (λ (l : List (ℕ × Line)). Stands x setup v.state v.missing l v.pass) next.at is.stands);
      }

-- after a write that goes on it is known what follows the next
onward_fits : (progress : Progress) → IsOnward progress → IsFittingAt progress
onward_fits Before onward = fitting_before
onward_fits (Filling fill) onward = λ other due. subst IsFitting (same_fill fill other due) onward
  where
    same_fill : (a b : Fill) → Filling a ≡ Filling b → a ≡ b
    same_fill a b e = cc
onward_fits (Walking walk) onward = absurd onward
onward_fits (AtLink place) onward = absurd onward
onward_fits Waiting onward = absurd onward

-- a line that ended, or goes on
module _ (x : Outline) (setup : List journaled.Entry) (line : Line) (old : LineState) (new : Inside) where
  pub ends_by : HasWrote x setup line old turn.Ended new → Ends x setup old new
  ends_by s = by_work s.stored.work s.stored.comes s.stands
    where
      by_work : (work : LineAtWork) → Comes old (Core (Seen s.element)) work turn.Ended new.state → StandsIn x setup line old work new
          → Ends x setup old new
      by_work (works.At progress) comes stands = absurd (apart comes.0)
        where
          apart : turn.Ended ≡ turn.More → ⊥
          apart e = cc
      by_work (works.Ended end) comes stands = stands
      by_work works.Nowhere comes stands = absurd comes

  record GoesOnBy : Type 0 where
    pub same : IsSameLine old new.state
    pub work : IsAtWork x setup new.state line (known_of new.pass)
    pub good : IsGoodProgress new.state.control.registers new.state.progress
    pub fitting : IsFittingAt new.state.progress

  goes_on_by : HasWrote x setup line old turn.More new → GoesOnBy
  goes_on_by s = by_work s.stored.work s.stored.comes s.stored.onward s.stands
    where
      by_work : (work : LineAtWork) → Comes old (Core (Seen s.element)) work turn.More new.state → IsOnwardAt work
          → StandsIn x setup line old work new → GoesOnBy
      by_work (works.At progress) comes onward stands = record {
        same = record {
          first = comes.1.first;
          control = comes.1.control;
          steps = comes.1.steps;
          more = Core (Seen s.element) ∷ [];
          events = comes.1.events;
          room = comes.1.room;
        };
        work = stands.0;
        good = stands.1;
        fitting = subst IsFittingAt (sym comes.1.progress) (onward_fits progress onward);
      }
      by_work (works.Ended end) comes onward stands = absurd (apart comes.0)
        where
          apart : turn.More ≡ turn.Ended → ⊥
          apart e = cc
      by_work works.Nowhere comes onward stands = absurd comes

-- what is told of it
came_more : (old new : LineState) (event : Event2) (work : LineAtWork) → Comes old event work turn.More new → IsOnwardAt work
    → CameTo old event work wrote.More new
came_more old new event (works.At progress) comes onward = (comes.1, onward)
came_more old new event (works.Ended end) comes onward = absurd (apart comes.0)
  where
    apart : turn.More ≡ turn.Ended → ⊥
    apart e = cc
came_more old new event works.Nowhere comes onward = absurd comes

came_done : (old new : LineState) (event : Event2) (work : LineAtWork) → Comes old event work turn.Ended new
    → CameTo old event work wrote.Done new
came_done old new event (works.At progress) comes = absurd (apart comes.0)
  where
    apart : turn.Ended ≡ turn.More → ⊥
    apart e = cc
came_done old new event (works.Ended end) comes = comes.1
came_done old new event works.Nowhere comes = absurd comes

uncut_still : (state : LineState) → MayBeCut state state
uncut_still state = record {
  more = 0;
  is = λ i. record { first = same i; control = state.control; recording = state.recording; progress = state.progress };
}
  where
    same : state.first ≡ state.first + 0
    same = omega arith

module _ (x : Outline) (setup : List journaled.Entry) (accounts : List Account) (script : List Line) (memory memory' : List Triple)
    (old : ProcessValue) (state : LineState) (o : PassValue journaled.Entry) (line : Line) (w : ProcessValue) (view : old ≡ w)
    (at : (number : ℕ) × IsAtLine x w number line) (settled : w.missing ≡ None) where
  there : (number : ℕ) × IsAtLine x old number line
  there = subst (λ (z : ProcessValue). (number : ℕ) × IsAtLine x z number line) (sym view) at

  none : old.missing ≡ None
  none = ap (λ (z : ProcessValue). z.missing) view ∙ settled

  abbrev value_of : Option Account → ProcessValue
  value_of account = record { state = state; missing = old.missing; pass = o; account = account }

  pub written_process : IsOut x setup accounts script memory memory' old state o line
      → HasWrote x setup line old.state turn.More (inside state o)
      → IsProcess x setup accounts script memory' (value_of old.account)
  written_process out s =
      let goes = goes_on_by x setup line old.state (inside state o) s in
      subst (λ (m : Option Miss). IsProcess x setup accounts script memory' (record { state = state; missing = m; pass = o; account = old.account }))
      (sym none) (going_process x setup accounts script memory memory' old state o line out goes.same
      (subst IsPackableControl (sym goes.same.control) out.is.packable) goes.good goes.fitting there.0 there.1 goes.work)

  pub written_more : HasWrote x setup line old.state turn.More (inside state o) → IsUntold old.pass o
      → HasWritten x w wrote.More (value_of old.account)
  written_more s untold =
      subst (λ (z : ProcessValue). HasWritten x z wrote.More (value_of old.account)) view (record {
        number = there.0;
        line = line;
        at = there.1;
        fill = s.stored.fill;
        due = s.stored.due;
        element = s.element;
        desc = s.desc;
        right = s.stored.right;
        work = s.stored.work;
        leads = s.stored.leads;
        ended = state;
        goes = came_more old.state state (Core (Seen s.element)) s.stored.work s.stored.comes s.stored.onward;
        cut = uncut_still state;
        uncut = λ more. refl;
        settled = none;
        attended = (λ some. some, λ some. some);
        untold = untold;
      })

  -- the line at work is no `logout`, in which no write is due
  pub no_logout : IsProcess x setup accounts script memory old → IsDue w.state.progress → line ≡ Ask Logout → ⊥
  no_logout is due =
      let here : IsDue old.state.progress = subst (λ (z : ProcessValue). IsDue z.state.progress) (sym view) due in
      let work : IsAtWork x setup old.state line (known_of old.pass)
      = subst (λ (m : Option Miss). Stands x setup old.state m ((there.0, line) ∷ there.1.left) old.pass) none
      (subst (λ (l : List (ℕ × Line)). Stands x setup old.state old.missing l old.pass) there.1.at is.stands) in
      work.filled here.fill here.is

  pub behind_write : (step : Step) → IsProcess x setup accounts script memory old → IsDue w.state.progress
      → state.recording.steps ≡ old.state.recording.steps ++ step ∷ [] → length state.recording.steps < length script
  behind_write step is due steps =
      line_behind x setup accounts script memory old state there.0 line step is there.1 (no_logout is due) steps

  pub written_done : (told : Option (ℕ × Denial)) (account' : Option Account) (state' : LineState) (script' : List Line)
      → HasWrote x setup line old.state turn.Ended (inside state o)
      → HasHeeded told old.account state script account' state' script'
      → IsUntold old.pass o
      → HasWritten x w wrote.Done (record { state = state'; missing = old.missing; pass = o; account = account' })
  written_done told account' state' script' s heeded untold =
      subst (λ (z : ProcessValue). HasWritten x z wrote.Done
      (record { state = state'; missing = old.missing; pass = o; account = account' })) view (record {
        number = there.0;
        line = line;
        at = there.1;
        fill = s.stored.fill;
        due = s.stored.due;
        element = s.element;
        desc = s.desc;
        right = s.stored.right;
        work = s.stored.work;
        leads = s.stored.leads;
        ended = state;
        goes = came_done old.state state (Core (Seen s.element)) s.stored.work s.stored.comes;
        cut = heeded_cut told old.account account' state state' script script' heeded;
        uncut = λ more. absurd (apart more);
        settled = none;
        attended = heeded_attended told old.account account' state state' script script' heeded;
        untold = untold;
      })
    where
      apart : wrote.Done ≡ wrote.More → ⊥
      apart e = cc
