-- What a line comes to, leg by leg.
use Rattle.std.proofs.Common.{◌≡◌, ℕ, suc, ◌+◌, ◌-◌, ◌<◌, ◌≤◌, ◌^◌, List, [], ◌∷◌, ◌++◌, length, length-append, append_assoc, append-nil, Option, Some, None, refl, sym, ◌∙◌, ap, subst, arith, Bool, true, false, IsTrue, IsFalse, Result, Ok, Err, IfOk, OnErr}
use Rattle.std.proofs.lemmas.List.{length-drop}
use Rattle.std.specs.Prelude.{IsSome}
use Rattle.mx_audit.specs.Accounts.{Account}
use Rattle.mx_core.specs.declared.elements.Event.TheVariants.{Missing, Seen}
use Rattle.mx_core.specs.declared.words.Triple.{Triple}
use Rattle.mx_line.specs.AtWork.{IsCome}
use Rattle.mx_line.specs.declared.at_work.LineAtWork.{LineAtWork}
use Rattle.mx_line.specs.declared.at_work.LineAtWork.TheVariants as works
use Rattle.mx_line.specs.declared.fills.Fill.{Fill}
use Rattle.mx_line.specs.declared.operands.Progress.{Progress}
use Rattle.mx_line.specs.declared.operands.Progress.TheVariants.{Before, Walking, AtLink, Waiting, Filling}
use Rattle.mx_line.specs.declared.processes.Process.{Process as LineState}
use Rattle.mx_request.specs.declared.requests.Request.TheVariants.{Block}
use Rattle.mx_rule.specs.declared.views.PassView.{PassView}
use Rattle.mx_script.specs.Sessions.{Outline}
use Rattle.mx_script.specs.declared.lines.Line.{Line}
use Rattle.mx_script.specs.declared.lines.Line.TheVariants.{Ask}
use Rattle.mx_state.specs.declared.journal.Entry as journaled
use Rattle.mx_transcript.specs.Courses.{Course, Attempt, Answer}
use Rattle.mx_transcript.specs.declared.transcripts.Event2.{Event2}
use Rattle.mx_transcript.specs.declared.transcripts.Event2.TheVariants.{Core}
use Rattle.mx_transcript.specs.Scripts.{lines_of}
use Rattle.mx_transcript.specs.Transcripts.{Step}
use Rattle.mx_process.proofs.AttemptLaws.{onward_by}
use Rattle.mx_process.proofs.PlanLaws.{countable_next, left_by, number_next}
use Rattle.mx_process.specs.Attempts.{HasDone, HasMissed, IsAtLinkIn}
use Rattle.mx_process.specs.Filling.{CameTo, HasWritten, IsDue, IsOnward}
use Rattle.mx_process.specs.Lines.{HasEnded, HasGoneOn, HasMadeLeg, HasNoLine, HasTurnedTo, IsAwake, IsOwn}
use Rattle.mx_process.specs.Plans.{left_of, number_in, place_in}
use Rattle.mx_process.specs.Processes.{ProcessValue, HasLine, IsAtLine, IsFittingAt, IsProcess, IsStill, Stands}
use Rattle.mx_process.specs.Settling.{IsSettled, again}
use Rattle.mx_process.specs.declared.filling.Wrote.TheVariants as wrote
use Rattle.mx_process.specs.declared.legs.Leg.{Leg}
use Rattle.mx_process.specs.declared.legs.Leg.TheVariants as leg
use Rattle.mx_process.specs.declared.lines.Turned.{Turned}
use Rattle.mx_process.specs.declared.lines.Turned.TheVariants as turned
use Rattle.mx_process.specs.declared.misses.Miss.{Miss}

-- the same process
own_by : (old new : ProcessValue) → new.pass.view.process ≡ old.pass.view.process → new.account ≡ old.account → IsOwn old new
own_by old new process account = record {
  process = process;
  attended = (λ some. subst IsSome (sym account) some, λ some. subst IsSome account some);
}

pub own_on : (a b c : ProcessValue) → IsOwn a b → IsOwn b c → IsOwn a c
own_on a b c g h = record {
  process = h.process ∙ g.process;
  attended = (λ some. h.attended.0 (g.attended.0 some), λ some. g.attended.1 (h.attended.1 some));
}

-- nothing happened
pub gone_same : (v : ProcessValue) → HasGoneOn v v
gone_same v = record {
  own = own_by v v refl refl;
  first = refl;
  control = refl;
  steps = refl;
  more = [];
  events = sym (append-nil v.state.recording.events);
}

pub gone_still : (old new : ProcessValue) → IsStill old new → HasGoneOn old new
gone_still old new s = record {
  own = own_by old new (ap (λ (v : PassView journaled.Entry). v.process) s.view) s.account;
  first = s.first;
  control = s.control;
  steps = s.steps;
  more = [];
  events = s.events ∙ sym (append-nil old.state.recording.events);
}

-- a leg, and then others
pub gone_on : (a b c : ProcessValue) → HasGoneOn a b → HasGoneOn b c → HasGoneOn a c
gone_on a b c g h = record {
  own = own_on a b c g.own h.own;
  first = h.first ∙ g.first;
  control = h.control ∙ g.control;
  steps = h.steps ∙ g.steps;
  more = g.more ++ h.more;
  events = h.events ∙ ap (λ (l : List Event2). l ++ h.more) g.events
      ∙ append_assoc a.state.recording.events g.more h.more;
}

pub ended_on : (a b c : ProcessValue) → HasGoneOn a b → HasEnded b c → HasEnded a c
ended_on a b c g h = record {
  own = own_on a b c g.own h.own;
  onward = subst (λ n. n ≤ c.state.first) g.first h.onward;
  more = g.more ++ h.more;
  ends = h.ends;
  steps = h.steps
      ∙ (λ i. g.steps i ++ (g.first i + length (g.steps i), g.events i ++ h.more, h.ends) ∷ [])
      ∙ ap (λ (l : List Event2). a.state.recording.steps ++ (number_in a.state, l, h.ends) ∷ [])
      (append_assoc a.state.recording.events g.more h.more);
  idle = h.idle;
  fresh = h.fresh;
  settled = h.settled;
}

pub leg_on : (x : Outline) (came : Leg) (a b c : ProcessValue) → HasGoneOn a b → HasMadeLeg x b came c → HasMadeLeg x a came c
leg_on x leg.More a b c g h = (gone_on a b c g h.0, h.1)
leg_on x leg.Done a b c g h = ended_on a b c g h
leg_on x leg.Blocks a b c g h = (gone_on a b c g h.0, h.1)
leg_on x leg.Waits a b c g h = (gone_on a b c g h.0, h.1)

-- the same line is next
pub at_line_on : (x : Outline) (old new : ProcessValue) (number : ℕ) (line : Line) → HasGoneOn old new → IsAtLine x old number line
    → IsAtLine x new number line
at_line_on x old new number line gone at = record {
  left = at.left;
  at = (λ i. left_by x (gone.own.process i) (gone.first i) (gone.steps i)) ∙ at.at;
}

pub line_on : (x : Outline) (old new : ProcessValue) → HasGoneOn old new → HasLine x old → HasLine x new
line_on x old new gone has =
    record { number = has.number; line = has.line; at = at_line_on x old new has.number has.line gone has.at }

-- who is told to wait is not at the beginning of a line, and stores nothing
before_awake : Before ≡ Waiting → ⊥
before_awake e = cc

filling_awake : (fill : Fill) → Filling fill ≡ Waiting → ⊥
filling_awake fill e = cc

-- a miss was settled
pub settled_gone : (x : Outline) (old new : ProcessValue) → IsSettled old new → HasMadeLeg x old leg.More new
settled_gone x old new s = (
  record {
    own = own_by old new s.process s.account;
    first = s.first;
    control = s.control;
    steps = s.steps;
    more = Core (Missing s.miss.segno s.miss.by) ∷ [];
    events = s.events;
  },
  λ waits. awake_again old.state.progress (sym s.anew ∙ waits),
)
  where
    awake_again : (progress : Progress) → again progress ≡ Waiting → ⊥
    awake_again (Filling fill) e = filling_awake fill e
    awake_again Before e = before_awake e
    awake_again (Walking walk) e = before_awake e
    awake_again (AtLink place) e = before_awake e
    awake_again Waiting e = before_awake e

-- a reference missed
pub missed_gone : (segno by : ℕ) (old new : ProcessValue) → HasMissed segno by old new → HasGoneOn old new
missed_gone segno by old new m = record {
  own = own_by old new m.untold.process m.account;
  first = m.same.first;
  control = m.same.control;
  steps = m.same.steps;
  more = m.same.more;
  events = m.same.events;
}

-- a link is to be snapped
pub link_gone : (x : Outline) (segno word ring : ℕ) (old new : ProcessValue) → IsAtLinkIn x segno word ring old new → HasGoneOn old new
link_gone x segno word ring old new l = record {
  own = own_by old new l.untold.process l.account;
  first = l.same.first;
  control = l.same.control;
  steps = l.same.steps;
  more = l.same.more;
  events = l.same.events;
}

-- an attempt ended the line
pub done_ended : (old new : ProcessValue) → HasDone old new → HasEnded old new
done_ended old new d = record {
  own = record { process = d.untold.process; attended = d.attended };
  onward = d.onward;
  more = d.more;
  ends = d.ends;
  steps = d.steps;
  idle = d.idle;
  fresh = d.fresh;
  settled = d.settled;
}

-- a write was made
pub written_gone : (x : Outline) (old new : ProcessValue) → HasWritten x old wrote.More new → HasMadeLeg x old leg.More new
written_gone x old new w = by_work w.work w.goes
  where
    awake : (progress : Progress) → IsOnward progress → progress ≡ Waiting → ⊥
    awake Before onward e = before_awake e
    awake (Filling fill) onward e = filling_awake fill e
    awake (Walking walk) onward e = absurd onward
    awake (AtLink place) onward e = absurd onward
    awake Waiting onward e = absurd onward

    by_work : (work : LineAtWork) → CameTo old.state (Core (Seen w.element)) work wrote.More w.ended → HasMadeLeg x old leg.More new
    by_work (works.At progress) goes = (
      record {
        own = record { process = w.untold.process; attended = w.attended };
        first = ap (λ (s : LineState). s.first) (w.uncut refl) ∙ goes.0.first;
        control = ap (λ (s : LineState). s.control) (w.uncut refl) ∙ goes.0.control;
        steps = ap (λ (s : LineState). s.recording.steps) (w.uncut refl) ∙ goes.0.steps;
        more = Core (Seen w.element) ∷ [];
        events = ap (λ (s : LineState). s.recording.events) (w.uncut refl) ∙ goes.0.events;
      },
      λ waits. awake progress goes.1 (sym (ap (λ (s : LineState). s.progress) (w.uncut refl) ∙ goes.0.progress) ∙ waits),
    )
    by_work (works.Ended end) goes = absurd goes
    by_work works.Nowhere goes = absurd goes

pub written_ended : (x : Outline) (old new : ProcessValue) → HasWritten x old wrote.Done new → HasEnded old new
written_ended x old new w = by_work w.work w.goes
  where
    by_work : (work : LineAtWork) → CameTo old.state (Core (Seen w.element)) work wrote.Done w.ended → HasEnded old new
    by_work (works.At progress) goes = absurd goes
    by_work (works.Ended end) goes = record {
      own = record { process = w.untold.process; attended = w.attended };
      onward = onward_by old.state w.ended new.state goes.first w.cut;
      more = Core (Seen w.element) ∷ [];
      ends = end.ends;
      steps = ap (λ (s : LineState). s.recording.steps) w.cut.is ∙ goes.steps;
      idle = ap (λ (s : LineState). s.recording.events) w.cut.is ∙ goes.idle;
      fresh = ap (λ (s : LineState). s.progress) w.cut.is ∙ goes.progress;
      settled = w.settled;
    }
    by_work works.Nowhere goes = absurd goes

-- a line that is no `block` does not wait
pub never_waiting : (x : Outline) (setup : List journaled.Entry) (accounts : List Account) (script : List Line) (memory : List Triple)
    (v : ProcessValue) (number : ℕ) (line : Line) → IsProcess x setup accounts script memory v → IsAtLine x v number line
    → (line ≡ Ask Block → ⊥) → IsAwake v
never_waiting x setup accounts script memory v number line is at other waits =
    by_missing v.missing (subst (λ (l : List (ℕ × Line)). Stands x setup v.state v.missing l v.pass) at.at is.stands)
  where
    by_course : (course : Course) → IsCome v.state.control line course Waiting → ⊥
    by_course (Attempt seen) come = absurd come.0
    by_course (Answer entry filled) come = other come.2

    by_missing : (missing : Option Miss) → Stands x setup v.state missing ((number, line) ∷ at.left) v.pass → ⊥
    by_missing None s = by_course s.course (subst (IsCome v.state.control line s.course) waits s.come)
    by_missing (Some m) s = by_course s.before.course (subst (IsCome v.state.control line s.before.course) waits s.before.come)

-- a turn, by its legs
pub turned_on : (a b c : ProcessValue) (came : Option Turned) → HasGoneOn a b → HasTurnedTo b came c → HasTurnedTo a came c
turned_on a b c None g h = gone_on a b c g h
turned_on a b c (Some turned.Done) g h = ended_on a b c g h
turned_on a b c (Some turned.Waits) g h = (gone_on a b c g h.0, h.1)

pub turned_done : (a b c : ProcessValue) (came : Turned) → HasGoneOn a b → HasTurnedTo b (Some came) c → came ≡ turned.Done
    → HasEnded a c
turned_done a b c came g h e =
    subst (λ (t : Turned). HasTurnedTo a (Some t) c) e (turned_on a b c (Some came) g h)

pub turned_waits : (a b c : ProcessValue) (came : Turned) → HasGoneOn a b → HasTurnedTo b (Some came) c → came ≡ turned.Waits
    → HasGoneOn a c × (c.state.progress ≡ Waiting)
turned_waits a b c came g h e =
    subst (λ (t : Turned). HasTurnedTo a (Some t) c) e (turned_on a b c (Some came) g h)

-- fewer lines are left
pub ended_fewer : (x : Outline) (old new : ProcessValue) (number : ℕ) (line : Line) → IsAtLine x old number line → HasEnded old new
    → length (left_of x new.pass.view.process new.state) < length (left_of x old.pass.view.process old.state)
ended_fewer x old new number line at e =
    let lines = lines_of x old.pass.view.process in
    let later = e.onward in
    let one = ap (λ (l : List Step). length l) e.steps ∙ length-append old.state.recording.steps
    ((number_in old.state, old.state.recording.events ++ e.more, e.ends) ∷ []) in
    let place : place_in x old.pass.view.process old.state < place_in x old.pass.view.process new.state = omega (arith, later, one) in
    let after : length (left_of x new.pass.view.process new.state) ≡ length lines - place_in x old.pass.view.process new.state
    = ap (λ p. length (left_of x p new.state)) e.own.process ∙ length-drop (place_in x old.pass.view.process new.state) lines in
    let before : length (left_of x old.pass.view.process old.state) ≡ length lines - place_in x old.pass.view.process old.state
    = length-drop (place_in x old.pass.view.process old.state) lines in
    let some : length (left_of x old.pass.view.process old.state) ≡ suc (length at.left)
    = ap (λ (l : List (ℕ × Line)). length l) at.at in
    omega (arith, place, after, before, some)

-- before a line, or at no line
pub none_left : (x : Outline) (v : ProcessValue) → (HasLine x v → ⊥) → HasNoLine x v
none_left x v never = by_left (left_of x v.pass.view.process v.state) refl
  where
    by_left : (left : List (ℕ × Line)) → left_of x v.pass.view.process v.state ≡ left
        → left_of x v.pass.view.process v.state ≡ []
    by_left [] e = e
    by_left (line ∷ left) e = absurd (never (record { number = line.0; line = line.1; at = record { left = left; at = e } }))

-- the next line has the number after those done
at_first : (x : Outline) (setup : List journaled.Entry) (accounts : List Account) (script : List Line) (memory : List Triple)
    (v : ProcessValue) → IsProcess x setup accounts script memory v → HasLine x v
    → (line : Line) × IsAtLine x v (v.state.first + length v.state.recording.steps) line
at_first x setup accounts script memory v is has = (
  has.line,
  record {
    left = has.at.left;
    at = subst (λ n. left_of x v.pass.view.process v.state ≡ (n, has.line) ∷ has.at.left)
        (number_next x v.pass.view.process v.state is.some is.planned has.number has.line has.at.left has.at.at) has.at.at;
  },
)

pub at_number : (x : Outline) (setup : List journaled.Entry) (accounts : List Account) (script : List Line) (memory : List Triple)
    (v w : ProcessValue) (n : ℕ) → IsProcess x setup accounts script memory v → v ≡ w → HasLine x w
    → n ≡ length v.state.recording.steps → (line : Line) × IsAtLine x w (v.state.first + n) line
at_number x setup accounts script memory v w n is same has count =
    subst (λ (z : ProcessValue). (line : Line) × IsAtLine x z (v.state.first + n) line) same
    (subst (λ m. (line : Line) × IsAtLine x v (v.state.first + m) line) (sym count)
    (at_first x setup accounts script memory v is (subst (HasLine x) (sym same) has)))

pub number_fits : (x : Outline) (setup : List journaled.Entry) (accounts : List Account) (script : List Line) (memory : List Triple)
    (v : ProcessValue) → IsProcess x setup accounts script memory v → HasLine x v → number_in v.state < 2 ^ 32
number_fits x setup accounts script memory v is has =
    countable_next x v.pass.view.process v.state is.some is.planned has.number has.line has.at.left is.session has.at.at

-- a write that is due is known to the last
pub is_due : (progress : Progress) (fill : Fill) → progress ≡ Filling fill → IsFittingAt progress → IsDue progress
is_due progress fill is fitting = record { fill = fill; is = is; fitting = fitting fill is }

-- a leg that makes room first
pub attempt_missed : (segno by : ℕ) (a b c : ProcessValue) → IsStill a b → HasMissed segno by b c → HasGoneOn a c
attempt_missed segno by a b c s m = gone_on a b c (gone_still a b s) (missed_gone segno by b c m)

pub attempt_linked : (x : Outline) (segno word ring : ℕ) (a b c : ProcessValue) → IsStill a b
    → IsAtLinkIn x segno word ring b c → HasGoneOn a c
attempt_linked x segno word ring a b c s l = gone_on a b c (gone_still a b s) (link_gone x segno word ring b c l)

pub write_gone : (x : Outline) (a b c : ProcessValue) → IsStill a b → HasWritten x b wrote.More c → HasMadeLeg x a leg.More c
write_gone x a b c s w = leg_on x leg.More a b c (gone_still a b s) (written_gone x b c w)

pub write_missed : (x : Outline) (segno by : ℕ) (a b c : ProcessValue) → IsStill a b → HasMissed segno by b c
    → IsDue a.state.progress → c.state.progress ≡ b.state.progress → HasMadeLeg x a leg.More c
write_missed x segno by a b c s m due same = (
  attempt_missed segno by a b c s m,
  λ waits. filling_awake due.fill (sym (same ∙ s.progress ∙ due.is) ∙ waits),
)

-- a call after an attempt
pub legs_on : {E : Type 0} (x : Outline) (a b c : ProcessValue) (result : Result Leg E) → HasGoneOn a b
    → IfOk result (λ came. HasMadeLeg x b came c) → IfOk result (λ came. HasMadeLeg x a came c)
legs_on x a b c (Ok came) g h = leg_on x came a b c g h
legs_on x a b c (Err e) g h = h

pub errs_on : {E : Type 0} (a b c : ProcessValue) (result : Result Leg E) → HasGoneOn a b → OnErr result (HasGoneOn b c)
    → OnErr result (HasGoneOn a c)
errs_on a b c (Ok came) g h = h
errs_on a b c (Err e) g h = gone_on a b c g h

-- where it is told that no line is left
told_apart : (b : Bool) → IsFalse b → IsTrue b → ⊥
told_apart true lacks holds = cc
told_apart false lacks holds = cc

pub no_line_left : (x : Outline) (v : ProcessValue) (b : Bool) → (IsTrue b → HasLine x v) × (HasLine x v → IsTrue b) → IsFalse b
    → HasNoLine x v
no_line_left x v b both lacks = none_left x v (λ has. told_apart b lacks (both.1 has))
