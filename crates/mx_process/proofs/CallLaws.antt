-- The calls of a process: when a line asks for one, and what its type says holds after it.
use Rattle.std.proofs.Common.{◌≡◌, ℕ, suc, ◌+◌, ◌-◌, ◌≤◌, true, List, [], ◌∷◌, ◌++◌, append-nil, length, Option, Some, None, Result, Ok, Err, refl, sym, ◌∙◌, ap, subst, arith}
use Rattle.std.specs.List.{slice_get}
use Rattle.std.specs.Prelude.{IfOk, IsSome, OnErr, OnOk}
use Rattle.std.specs.declared.alloc.AllocError.{AllocError}
use Rattle.mx_audit.specs.Accounts.{Account}
use Rattle.mx_core.specs.declared.words.Triple.{Triple}
use Rattle.mx_desc.specs.Passes.{PassValue}
use Rattle.mx_line.proofs.StandingLaws.{before_asks, link_refers, waiting_calls, walking_refers}
use Rattle.mx_line.specs.AtWork.{IsCome, IsFree}
use Rattle.mx_line.specs.Operands.{IsGoodProgress, IsSayable}
use Rattle.mx_line.specs.declared.operands.Progress.{Progress}
use Rattle.mx_line.specs.declared.operands.Progress.TheVariants.{Before, Walking, AtLink, Waiting, Filling}
use Rattle.mx_line.specs.declared.processes.Process.{Process as LineState}
use Rattle.mx_office.specs.Serving.{HasGrown}
use Rattle.mx_request.specs.declared.requests.Request.{Request}
use Rattle.mx_request.specs.declared.requests.Request.TheVariants.{Block, Link, Resume}
use Rattle.mx_rule.specs.declared.views.PassView.{PassView}
use Rattle.mx_script.specs.Sessions.{Outline, is_script_line}
use Rattle.mx_script.specs.declared.lines.Line.{Line}
use Rattle.mx_script.specs.declared.lines.Line.TheVariants.{Ask}
use Rattle.mx_state.specs.declared.journal.Entry as journaled
use Rattle.mx_transcript.specs.Asking.{next}
use Rattle.mx_transcript.specs.Courses.{Course}
use Rattle.mx_transcript.specs.Next.{Calls}
use Rattle.mx_transcript.specs.Scripts.{lines_of}
use Rattle.mx_transcript.specs.Transcripts.{Step}
use Rattle.mx_transcript.specs.declared.transcripts.Event2.{Event2}
use Rattle.mx_upcall.specs.Control.{Control}
use Rattle.mx_upcall.specs.Soundness.{IsPackableControl}
use Rattle.mx_process.proofs.AttemptLaws.{one_line}
use Rattle.mx_process.proofs.AuditLaws.{audited_none, audited_same, undenied_one}
use Rattle.mx_process.proofs.PlanLaws.{countable_next, left_by, place_next, sayable_next, within_next}
use Rattle.mx_process.proofs.ProcessLaws.{fitting_before, later, same_within}
use Rattle.mx_process.specs.Attempts.{IsAtLinkIn}
use Rattle.mx_process.specs.Audited.{IsAudited}
use Rattle.mx_process.specs.Entries.{CallsFor, EndsBy, GoesOnBy, HasCalled, IsAtCall, StaysAt}
use Rattle.mx_process.specs.Lines.{HasEnded, HasGoneOn, IsAwake, IsCalling, IsLeftByReply, IsOwn}
use Rattle.mx_process.specs.Plans.{left_of, number_in, place_in}
use Rattle.mx_process.specs.Processes.{IsFittingAt, ProcessValue, AsksFor, AsksIn, HasLine, IsAtLine, IsProcess, IsReferringIn, IsStill, Stands, known_of}
use Rattle.mx_process.specs.Turns.{inside}
use Rattle.mx_process.specs.declared.entries.Answered.{Answered}
use Rattle.mx_process.specs.declared.entries.Answered.TheVariants as answered
use Rattle.mx_process.specs.declared.lines.Turned.{Turned}
use Rattle.mx_process.specs.declared.lines.Turned.TheVariants as turned
use Rattle.mx_process.specs.declared.misses.Miss.{Miss}

-- a line that is a request asks for it in the current ring
pub calls_own : (x : Outline) (v : ProcessValue) (number : ℕ) (request : Request) → IsAtLine x v number (Ask request)
    → v.state.progress ≡ Before → IsCalling x v v.state.control.registers.ring request
calls_own x v number request at is = record {
  number = number;
  line = Ask request;
  at = at;
  asks = λ course come. before_asks v.state.control (Ask request) course (subst (IsCome v.state.control (Ask request) course) is come);
}

-- so does one that has come no further, where no write is due and it does not wait
pub calls_asked : (x : Outline) (v : ProcessValue) (number : ℕ) (request : Request) → IsAtLine x v number (Ask request)
    → IsFree v.state.progress → IsAwake v → IsCalling x v v.state.control.registers.ring request
calls_asked x v number request at free awake = record {
  number = number;
  line = Ask request;
  at = at;
  asks = λ course come. by_progress v.state.progress refl course come;
}
  where
    by_progress : (progress : Progress) → v.state.progress ≡ progress → (course : Course)
        → IsCome v.state.control (Ask request) course progress
        → next v.state.control (Ask request) course ≡ Calls v.state.control.registers.ring request
    by_progress Before is course come = before_asks v.state.control (Ask request) course come
    by_progress (Walking walk) is course come = absurd (walking_refers v.state.control (Ask request) course walk come)
    by_progress (AtLink place) is course come = absurd (link_refers v.state.control (Ask request) course place come)
    by_progress Waiting is course come = absurd (awake is)
    by_progress (Filling fill) is course come = absurd (free fill is)

-- which is no `resume`
script_resumes : IsSayable (Ask Resume) → ⊥
script_resumes sayable = apart sayable.1
  where
    apart : is_script_line sayable.0 (Ask Resume) ≡ true → ⊥
    apart e = cc

pub own_no_resume : (x : Outline) (setup : List journaled.Entry) (accounts : List Account) (script : List Line) (memory : List Triple)
    (v : ProcessValue) (number : ℕ) (request : Request) → IsProcess x setup accounts script memory v
    → IsAtLine x v number (Ask request) → request ≡ Resume → ⊥
own_no_resume x setup accounts script memory v number request is at e =
    script_resumes (subst (λ (q : Request). IsSayable (Ask q)) e
    (sayable_next x v.pass.view.process v.state is.some is.planned number (Ask request) at.left is.session at.at))

-- a line whose link is to be snapped asks for that
pub calls_link : (x : Outline) (segno word ring : ℕ) (old new : ProcessValue) → IsAtLinkIn x segno word ring old new
    → IsCalling x new ring (Link segno word)
calls_link x segno word ring old new is = record { number = is.number; line = is.line; at = is.at; asks = is.linking }

-- a line that waits asks to resume in the current ring
pub calls_resume : (x : Outline) (v : ProcessValue) → HasLine x v → v.state.progress ≡ Waiting
    → IsCalling x v v.state.control.registers.ring Resume
calls_resume x v has is = record {
  number = has.number;
  line = has.line;
  at = has.at;
  asks = λ course come. waiting_calls v.state.control has.line course (subst (IsCome v.state.control has.line course) is come);
}

-- where a line waits no miss is to be settled
waiting_settled : (x : Outline) (setup : List journaled.Entry) (state : LineState) (missing : Option Miss) (left : List (ℕ × Line))
    (o : PassValue journaled.Entry) → state.progress ≡ Waiting → Stands x setup state missing left o → missing ≡ None
waiting_settled x setup state None left o is stands = refl
waiting_settled x setup state (Some m) [] o is stands = absurd stands
waiting_settled x setup state (Some m) (line ∷ left) o is stands =
    absurd (subst (AsksIn m.segno) (waiting_calls state.control line.1 stands.before.course come)
    (asks stands.before.course come))
  where
    come : IsCome state.control line.1 stands.before.course Waiting
    come = subst (IsCome state.control line.1 stands.before.course) is stands.before.come

    asks : IsReferringIn m.segno state.control line.1 Waiting
    asks = subst (AsksFor m.segno state.control line.1) is stands.asks

module _ (x : Outline) (setup : List journaled.Entry) (accounts : List Account) (script : List Line) (memory : List Triple)
    (v w : ProcessValue) (line : Line) (same : v ≡ w) (is : IsProcess x setup accounts script memory v)
    (at : (number : ℕ) × IsAtLine x w number line) where
  there : (number : ℕ) × IsAtLine x v number line
  there = subst (λ (z : ProcessValue). (number : ℕ) × IsAtLine x z number line) (sym same) at

  at_call : (ring : ℕ) (request : Request) → v.missing ≡ None → CallsFor v.state line ring request
      → IsAtCall x setup v.state line ring request (known_of v.pass)
  at_call ring request settled calls =
      let next : IsAtLine x v there.0 line = there.1 in
      record {
        sayable = sayable_next x v.pass.view.process v.state is.some is.planned there.0 line next.left is.session next.at;
        packable = is.packable;
        good = is.good;
        fitting = is.fitting;
        some = is.some;
        planned = is.planned;
        countable = countable_next x v.pass.view.process v.state is.some is.planned there.0 line next.left is.session next.at;
        work = subst (λ (m : Option Miss). Stands x setup v.state m ((there.0, line) ∷ next.left) v.pass) settled
            (subst (λ (l : List (ℕ × Line)). Stands x setup v.state v.missing l v.pass) next.at is.stands);
        calls = calls;
      }

  -- a call can be made
  pub call_begins : (ring : ℕ) (request : Request) → IsCalling x w ring request → w.missing ≡ None
      → IsAtCall x setup v.state line ring request (known_of v.pass)
  call_begins ring request calling settled =
      let mine : IsCalling x v ring request = subst (λ (z : ProcessValue). IsCalling x z ring request) (sym same) calling in
      at_call ring request (ap (λ (z : ProcessValue). z.missing) same ∙ settled)
      (subst (λ (l : Line). CallsFor v.state l ring request) (one_line x v mine.number there.0 mine.line line mine.at there.1) mine.asks)

  -- a `block` is made in the current ring
  pub block_begins : IsCalling x w w.state.control.registers.ring Block → w.missing ≡ None
      → IsAtCall x setup v.state line v.state.control.registers.ring Block (known_of v.pass)
  block_begins calling settled =
      call_begins v.state.control.registers.ring Block (subst (λ n. IsCalling x w n Block)
      (ap (λ (z : ProcessValue). z.state.control.registers.ring) (sym same)) calling) settled

  pub resume_settled : w.state.progress ≡ Waiting → v.missing ≡ None
  resume_settled waiting =
      waiting_settled x setup v.state v.missing (left_of x v.pass.view.process v.state) v.pass
      (ap (λ (z : ProcessValue). z.state.progress) same ∙ waiting) is.stands

  pub resume_begins : w.state.progress ≡ Waiting
      → IsAtCall x setup v.state line v.state.control.registers.ring Resume (known_of v.pass)
  resume_begins waiting =
      let mine : v.state.progress ≡ Waiting = ap (λ (z : ProcessValue). z.state.progress) same ∙ waiting in
      at_call v.state.control.registers.ring Resume (resume_settled waiting)
      (λ course come. waiting_calls v.state.control line course (subst (IsCome v.state.control line course) mine come))

-- A call was made, from one value of a process to another.
module _ (x : Outline) (setup : List journaled.Entry) (accounts : List Account) (script : List Line) (memory : List Triple)
    (old w : ProcessValue) (state : LineState) (o : PassValue journaled.Entry) (line : Line) (same : old ≡ w)
    (is : IsProcess x setup accounts script memory old) (grown : HasGrown old.pass o) (settled : old.missing ≡ None) where
  abbrev pub value_of : Option Miss → ProcessValue
  value_of missing = record { state = state; missing = missing; pass = o; account = old.account }

  made : state.first ≡ old.state.first → (more : List Step) → state.recording.steps ≡ old.state.recording.steps ++ more
      → place_in x old.pass.view.process state ≤ length (lines_of x old.pass.view.process) → IsPackableControl state.control
      → IsGoodProgress state.control.registers state.progress → IsFittingAt state.progress
      → Stands x setup state None (left_of x o.view.process state) o
      → IsAudited x old.pass.view.process (slice_get accounts (old.pass.view.process - 1)) state old.account
      → IsProcess x setup accounts script memory (value_of old.missing)
  made first more steps within packable good fitting stands audited =
      subst (λ (m : Option Miss). IsProcess x setup accounts script memory (value_of m)) (sym settled)
      (later x setup accounts script memory memory old (value_of None) is grown.process first more steps
      (is.same ∙ sym grown.memory) (grown.stage ∙ is.outside) within packable good fitting stands audited)

  here : (number : ℕ) × IsAtLine x w number line → (number : ℕ) × IsAtLine x old number line
  here at = subst (λ (z : ProcessValue). (number : ℕ) × IsAtLine x z number line) (sym same) at

  -- the line goes on
  pub stays_process : (number : ℕ) × IsAtLine x w number line → StaysAt x setup line old.state (inside state o)
      → IsProcess x setup accounts script memory (value_of old.missing)
  stays_process at s =
      let next : IsAtLine x old (here at).0 line = (here at).1 in
      made s.same.first [] (s.same.steps ∙ sym (append-nil old.state.recording.steps))
      (same_within x old.pass.view.process old.state state s.same.first s.same.steps is.within)
      (subst IsPackableControl (sym s.same.control) is.packable) s.good s.fitting
      (subst (λ (l : List (ℕ × Line)). Stands x setup state None l o)
      (sym ((λ i. left_by x (grown.process i) (s.same.first i) (s.same.steps i)) ∙ next.at)) s.work)
      (audited_same x old.pass.view.process old.pass.view.process accounts old.state state old.account old.account s.same.first
      s.same.steps refl refl is.audited)

  pub has_gone : StaysAt x setup line old.state (inside state o) → HasGoneOn w (value_of old.missing)
  has_gone s = subst (λ (z : ProcessValue). HasGoneOn z (value_of old.missing)) same (record {
    own = record { process = grown.process; attended = (λ some. some, λ some. some) };
    first = s.same.first;
    control = s.same.control;
    steps = s.same.steps;
    more = s.same.more;
    events = s.same.events;
  })

  -- or has ended
  pub ended_process : (number : ℕ) × IsAtLine x w number line → EndsBy x setup old.state (inside state o)
      → IsProcess x setup accounts script memory (value_of old.missing)
  ended_process at e =
      let next : IsAtLine x old (here at).0 line = (here at).1 in
      made e.ended.first (step ∷ []) e.ended.steps
      (within (within_next x old.pass.view.process old.state is.some is.planned (here at).0 line next.left next.at)
      (place_next x old.pass.view.process old.state state step e.ended.first e.ended.steps))
      e.ended.packable (subst (IsGoodProgress state.control.registers) (sym e.ended.fresh) tt)
      (subst IsFittingAt (sym e.ended.fresh) fitting_before) e.ended.before
      (audited_none x old.pass.view.process (slice_get accounts (old.pass.view.process - 1)) old.state state (step ∷ [])
      e.ended.first e.ended.steps old.account
      (undenied_one (number_in old.state) (old.state.recording.events ++ e.ended.more) e.ended.ends e.undenied) is.audited)
    where
      step : Step
      step = (number_in old.state, old.state.recording.events ++ e.ended.more, e.ended.ends)

      within : {a b n : ℕ} → suc a ≤ n → b ≡ suc a → b ≤ n
      within {a} {b} {n} less is = omega (arith, less, is)

  pub has_ended : EndsBy x setup old.state (inside state o) → HasEnded w (value_of old.missing)
  has_ended e = subst (λ (z : ProcessValue). HasEnded z (value_of old.missing)) same (record {
    own = record { process = grown.process; attended = (λ some. some, λ some. some) };
    onward = low old.state.first state.first e.ended.first;
    more = e.ended.more;
    ends = e.ended.ends;
    steps = e.ended.steps;
    idle = e.ended.idle;
    fresh = e.ended.fresh;
    settled = settled;
  })
    where
      low : (a b : ℕ) → b ≡ a → a ≤ b
      low a b e = omega (arith, e)

  still_value : state ≡ old.state → o ≡ old.pass → value_of old.missing ≡ old
  still_value same_state same_pass = λ i. record {
    state = same_state i;
    missing = old.missing;
    pass = same_pass i;
    account = old.account;
  }

  -- by what a call came to
  pub called_process : (r : Result Answered AllocError)
      → IfOk r (λ (came : Answered). HasCalled x setup line old.state came (inside state o))
      → OnErr r (state ≡ old.state) → OnErr r (o ≡ old.pass) → (number : ℕ) × IsAtLine x w number line
      → IsProcess x setup accounts script memory (value_of old.missing)
  called_process (Ok answered.More) s same_state same_pass at = stays_process at s.stays
  called_process (Ok answered.Done) s same_state same_pass at = ended_process at s
  called_process (Err e) s same_state same_pass at =
      subst (IsProcess x setup accounts script memory) (sym (still_value same_state same_pass)) is

  pub called_more : (r : Result Answered AllocError)
      → IfOk r (λ (came : Answered). HasCalled x setup line old.state came (inside state o)) → r ≡ Ok answered.More
      → HasGoneOn w (value_of old.missing) × IsLeftByReply (value_of old.missing) × (old.missing ≡ None)
  called_more r s e =
      let goes : GoesOnBy x setup line old.state (inside state o)
      = subst (λ (z : Result Answered AllocError). IfOk z (λ (came : Answered). HasCalled x setup line old.state came (inside state o))) e s in
      (has_gone goes.stays, goes.left, settled)

  pub called_done : (r : Result Answered AllocError)
      → IfOk r (λ (came : Answered). HasCalled x setup line old.state came (inside state o)) → r ≡ Ok answered.Done
      → HasEnded w (value_of old.missing)
  called_done r s e =
      has_ended (subst (λ (z : Result Answered AllocError). IfOk z (λ (came : Answered). HasCalled x setup line old.state came (inside state o))) e s)

  -- by what a `block` came to
  pub slept_process : (r : Result (Unit {0}) AllocError) → OnOk r (EndsBy x setup old.state (inside state o))
      → OnErr r (StaysAt x setup line old.state (inside state o)) → (number : ℕ) × IsAtLine x w number line
      → IsProcess x setup accounts script memory (value_of old.missing)
  slept_process (Ok v) ended stays at = ended_process at ended
  slept_process (Err e) ended stays at = stays_process at stays

  pub slept_done : (r : Result (Unit {0}) AllocError) → OnOk r (EndsBy x setup old.state (inside state o))
      → OnOk r (HasEnded w (value_of old.missing))
  slept_done (Ok v) ended = has_ended ended
  slept_done (Err e) ended = tt

  pub slept_err : (r : Result (Unit {0}) AllocError) → OnErr r (StaysAt x setup line old.state (inside state o))
      → OnErr r (HasGoneOn w (value_of old.missing))
  slept_err (Ok v) stays = tt
  slept_err (Err e) stays = has_gone stays

  -- by what a `resume` came to
  pub resumed_process : (r : Result Turned AllocError) → (r ≡ Ok turned.Done → EndsBy x setup old.state (inside state o))
      → (r ≡ Ok turned.Waits → (state ≡ old.state) × (o ≡ old.pass)) → OnErr r (state ≡ old.state) → OnErr r (o ≡ old.pass)
      → (number : ℕ) × IsAtLine x w number line → IsProcess x setup accounts script memory (value_of old.missing)
  resumed_process (Ok turned.Done) ended waits same_state same_pass at = ended_process at (ended refl)
  resumed_process (Ok turned.Waits) ended waits same_state same_pass at =
      subst (IsProcess x setup accounts script memory) (sym (still_value (waits refl).0 (waits refl).1)) is
  resumed_process (Err e) ended waits same_state same_pass at =
      subst (IsProcess x setup accounts script memory) (sym (still_value same_state same_pass)) is

-- a call is made after room was made for it
module _ (x : Outline) (old mid : ProcessValue) (s : IsStill old mid) where
  own_still : (new : ProcessValue) → IsOwn mid new → IsOwn old new
  own_still new own = record {
    process = own.process ∙ ap (λ (v : PassView journaled.Entry). v.process) s.view;
    attended = (
      λ some. own.attended.0 (subst (IsSome {T = Account}) (sym s.account) some),
      λ some. subst (IsSome {T = Account}) s.account (own.attended.1 some),
    );
  }

  pub ended_still : (new : ProcessValue) → HasEnded mid new → HasEnded old new
  ended_still new e = record {
    own = own_still new e.own;
    onward = subst (λ n. n ≤ new.state.first) s.first e.onward;
    more = e.more;
    ends = e.ends;
    steps = e.steps
        ∙ (λ i. s.steps i ++ (s.first i + length (s.steps i), s.events i ++ e.more, e.ends) ∷ []);
    idle = e.idle;
    fresh = e.fresh;
    settled = e.settled;
  }

  pub gone_still : (new : ProcessValue) → HasGoneOn mid new → HasGoneOn old new
  gone_still new e = record {
    own = own_still new e.own;
    first = e.first ∙ s.first;
    control = e.control ∙ s.control;
    steps = e.steps ∙ s.steps;
    more = e.more;
    events = e.events ∙ ap (λ (l : List Event2). l ++ e.more) s.events;
  }

  at_still : (number : ℕ) (line : Line) → IsAtLine x old number line → IsAtLine x mid number line
  at_still number line at = record { left = at.left; at = (λ i. left_by x (s.view i).process (s.first i) (s.steps i)) ∙ at.at }

  pub line_still : HasLine x old → HasLine x mid
  line_still has = record { number = has.number; line = has.line; at = at_still has.number has.line has.at }

  pub calling_still : (ring : ℕ) (request : Request) → IsCalling x old ring request → IsCalling x mid ring request
  calling_still ring request c = record {
    number = c.number;
    line = c.line;
    at = at_still c.number c.line c.at;
    asks = λ course come. ap (λ (g : Control). next g c.line course) s.control
        ∙ c.asks course (subst (λ (g : Control). IsCome g c.line course old.state.progress) s.control
        (subst (IsCome mid.state.control c.line course) s.progress come));
  }

  pub block_still : IsCalling x old old.state.control.registers.ring Block → IsCalling x mid mid.state.control.registers.ring Block
  block_still c =
      calling_still mid.state.control.registers.ring Block
      (subst (λ n. IsCalling x old n Block) (ap (λ (g : Control). g.registers.ring) (sym s.control)) c)
