-- What a process's type says holds of a new one, and after each of its calls.
use Rattle.std.proofs.Common.{◌≡◌, inl, inr, ℕ, zero, suc, ◌+◌, ◌-◌, ◌<◌, ◌≤◌, ◌^◌, nat_lt, IsTrue, map, List, [], ◌∷◌, ◌++◌, append-nil, drop, length, Option, Some, None, refl, sym, ◌∙◌, ap, subst, arith}
use Rattle.std.proofs.lemmas.Bool.Decides.{nat_tests}
use Rattle.std.proofs.lemmas.List.{length-drop}
use Rattle.std.proofs.lemmas.Option.{slice_get_past, slice_get_within}
use Rattle.std.specs.List.{slice_get}
use Rattle.mx_audit.specs.Accounts.{Account}
use Rattle.mx_call.specs.Loading as start
use Rattle.mx_closing.specs.Views.{kept_in, marked_in, view_in}
use Rattle.mx_core.specs.AssociativeMemory.{recalled}
use Rattle.mx_core.specs.declared.elements.Kept.{Kept as Recorded}
use Rattle.mx_core.specs.declared.words.Stage.TheVariants.{Outside}
use Rattle.mx_core.specs.declared.words.Triple.{Triple}
use Rattle.mx_desc.specs.Passes.{PassValue, without_trace}
use Rattle.mx_line.specs.AtWork.{IsCome, IsFree}
use Rattle.mx_line.specs.Fills.{IsNoRequest}
use Rattle.mx_line.specs.Operands.{IsGoodProgress}
use Rattle.mx_line.specs.declared.operands.Progress.{Progress}
use Rattle.mx_line.specs.declared.operands.Progress.TheVariants.{Before, Filling}
use Rattle.mx_line.specs.declared.processes.Process.{Process as LineState}
use Rattle.mx_office.specs.Serving.{told_to}
use Rattle.mx_request.specs.Versions.{most_gates}
use Rattle.mx_rule.specs.Shown.{all_told}
use Rattle.mx_rule.specs.declared.views.PassView.{PassView}
use Rattle.mx_script.specs.Sessions.{Outline, IsSession}
use Rattle.mx_script.specs.declared.lines.Line.{Line}
use Rattle.mx_state.specs.declared.journal.Entry as journaled
use Rattle.mx_ties.proofs.WorkingLaws.{begin_law, idle_law}
use Rattle.mx_ties.specs.AtWork.{AtWork}
use Rattle.mx_ties.specs.Views.{View}
use Rattle.mx_ties.specs.Working.{IsWorking, HasWorked}
use Rattle.mx_transcript.specs.Courses.{Attempt}
use Rattle.mx_transcript.specs.Legal.{setup_entries}
use Rattle.mx_transcript.specs.Openings.{opening_control}
use Rattle.mx_transcript.specs.Scripts.{first_line, lines_of}
use Rattle.mx_transcript.specs.Transcripts.{Step}
use Rattle.mx_upcall.specs.Control.{Control}
use Rattle.mx_upcall.specs.Gates.{no_gates}
use Rattle.mx_upcall.specs.Soundness.{IsPackableControl}
use Rattle.mx_process.proofs.AuditLaws.{audited_first, audited_same}
use Rattle.mx_line.proofs.ScriptLaws.{past_end}
use Rattle.mx_process.proofs.PlaceLaws.{lines_count, numbers_fit}
use Rattle.mx_process.proofs.PlanLaws.{countable_next, fewer_next, first_low, left_by, none_left_out, number_next, plan_by, planned_on, rest_by, sayable_next, script_next, uncut_on, uncut_plan}
use Rattle.mx_process.proofs.WorkLaws.{unfilled}
use Rattle.mx_process.specs.Audited.{IsAudited}
use Rattle.mx_process.specs.Plans.{IsPlanned, IsUncut, left_of, left_out, number_in, place_in}
use Rattle.mx_process.specs.Processes.{Known, ProcessValue, AsksFor, HasLine, IsAtLine, IsAtWork, IsBefore, IsFittingAt, IsNewPass, IsProcess, IsStill, Stands, having_done, known_of, script_of}
use Rattle.mx_process.specs.Turns.{IsAttempting}
use Rattle.mx_process.specs.declared.misses.Miss.{Miss}

abbrev pub started : ℕ → Control
started most = record { registers = start.opening_registers; gates = no_gates most }

pub opening_is : (x : Outline) (p : ℕ) → 1 ≤ p → started (most_gates x.version) ≡ opening_control x p
opening_is x zero some = absurd (omega (arith, some))
opening_is x (suc p) some = refl

-- before a line no write is due
pub fitting_before : IsFittingAt Before
fitting_before fill due = absurd (apart due)
  where
    apart : Before ≡ Filling fill → ⊥
    apart e = cc

-- the process of a pass that did nothing yet
module _ (x : Outline) (setup : List journaled.Entry) (state : LineState) (o : PassValue journaled.Entry) where
  pub record IsFirst : Type 0 where
    pub fresh : IsNewPass x o
    pub some : 1 ≤ o.view.process
    pub first : state.first ≡ first_line x o.view.process
    pub control : state.control ≡ opening_control x o.view.process
    pub steps : state.recording.steps ≡ []
    pub events : state.recording.events ≡ []
    pub progress : state.progress ≡ Before

  abbrev begun_view : View
  begun_view = record { trace = []; history = []; floor = setup_entries x; amount = 0 }

  view_begun : IsFirst → view_in o ≡ begun_view
  view_begun f = λ i. record {
    trace = map kept_in (f.fresh.view i).trace;
    history = marked_in (f.fresh.view i).history;
    floor = (f.fresh.view i).floor;
    amount = f.fresh.amount i;
  }

  same : (n : ℕ) → n ≤ n
  same n = omega arith

  first_place : IsFirst → place_in x o.view.process state ≡ 0
  first_place f =
      let first = f.first in
      let none = ap (λ (l : List Step). length l) f.steps in
      omega (arith, first, none)

  pub first_stands : IsFirst → Stands x setup state None (left_of x o.view.process state) o
  first_stands f =
      subst (λ n. IsBefore x setup state (drop n (lines_of x o.view.process)) (known_of o)) (sym (first_place f))
      (by_lines (lines_of x o.view.process) refl)
    where
      by_lines : (lines : List (ℕ × Line)) → lines_of x o.view.process ≡ lines → IsBefore x setup state lines (known_of o)
      by_lines [] e =
          subst (λ (v : View). HasWorked x setup o.view.process state.recording.steps v) (sym (view_begun f))
          (subst (λ (steps : List Step). HasWorked x setup o.view.process steps begun_view) (sym f.steps)
          (idle_law x setup o.view.process (setup_entries x) e (same (setup_entries x))))
      by_lines ((number, line) ∷ left) e =
          let begun = begin_law x setup o.view.process number line left (setup_entries x) (told_to o) e (same (setup_entries x)) in
          let at : left_of x o.view.process state ≡ (number, line) ∷ left
          = ap (λ n. drop n (lines_of x o.view.process)) (first_place f) ∙ e in
          let numbered : number ≡ number_in state
          = number_next x o.view.process state f.some (inl f.first) number line left at in
          let rest : left ≡ drop (suc (place_in x o.view.process state)) (lines_of x o.view.process)
          = tail_of (lines_of x o.view.process) (number, line) left e
          ∙ ap (λ n. drop (suc n) (lines_of x o.view.process)) (sym (first_place f)) in
          record {
            course = Attempt [];
            working = subst (λ (w : AtWork). IsWorking x setup o.view.process w (view_in o) (told_to o)) (λ i. record {
              ran = sym (uncut_plan x o.view.process state f.first) i;
              steps = sym f.steps i;
              number = numbered i;
              line = line;
              left = rest i;
              now = sym f.control i;
              events = sym f.events i;
              course = Attempt [];
            }) (subst (λ (v : View). IsWorking x setup o.view.process (record {
              ran = lines_of x o.view.process;
              steps = [];
              number = number;
              line = line;
              left = left;
              now = opening_control x o.view.process;
              events = [];
              course = Attempt [];
            }) v (told_to o)) (sym (view_begun f)) begun);
            come = subst (λ (r : Progress). IsCome state.control line (Attempt []) r) (sym f.progress) (refl, tt);
            filled = unfilled state.progress line f.progress;
          }
        where
          tail_of : (lines : List (ℕ × Line)) (l : ℕ × Line) (more : List (ℕ × Line)) → lines ≡ l ∷ more → more ≡ drop 1 lines
          tail_of lines l more e = sym (ap (drop 1) e)

-- a pass that did nothing yet did nothing where it keeps no trace
pub new_untraced : (x : Outline) (o : PassValue journaled.Entry) → IsNewPass x o → IsNewPass x (without_trace o)
new_untraced x o new = record { process = new.process; view = new.view; amount = new.amount }

pub first_process : (x : Outline) (setup : List journaled.Entry) (accounts : List Account) (script : List Line) (state : LineState)
    (o : PassValue journaled.Entry) → IsSession x → IsFirst x setup state o → script ≡ script_of x o.view.process
    → IsPackableControl state.control
    → IsProcess x setup accounts script [] (record { state = state; missing = None; pass = o; account = None })
first_process x setup accounts script state o session f own packable = record {
  session = session;
  some = f.some;
  own = own ∙ ap (λ n. drop n (script_of x o.view.process)) (sym (none_left_out x o.view.process state f.first));
  same = sym (ap (λ (v : PassView journaled.Entry). v.memory) f.fresh.view);
  outside = ap (λ (v : PassView journaled.Entry). v.stage) f.fresh.view;
  planned = inl f.first;
  within = subst (λ n. n ≤ length (lines_of x o.view.process)) (sym (first_place x setup state o f))
      (none_first (length (lines_of x o.view.process)));
  packable = packable;
  good = subst (IsGoodProgress state.control.registers) (sym f.progress) tt;
  fitting = subst IsFittingAt (sym f.progress) fitting_before;
  stands = first_stands x setup state o f;
  alone = λ none. f.first;
  audited = tt;
}
  where
    none_first : (n : ℕ) → 0 ≤ n
    none_first n = omega arith

-- before any line nothing is left out
begun_uncut : (x : Outline) (p : ℕ) (state : LineState) → state.recording.steps ≡ [] → IsPlanned x p state → IsUncut x p state
begun_uncut x p state none (inl uncut) = uncut
begun_uncut x p state none (inr cut) =
    let low = slice_get_within state.recording.steps cut.1.place cut.1.step cut.1.at in
    let count = ap (λ (l : List Step). length l) none in
    absurd (omega (arith, low, count))

-- with an auditor
pub attended : (x : Outline) (setup : List journaled.Entry) (accounts : List Account) (script : List Line) (memory : List Triple)
    (v : ProcessValue) (account : Account) → IsProcess x setup accounts script memory v
    → slice_get accounts (v.pass.view.process - 1) ≡ Some account → v.state.recording.steps ≡ []
    → length (script_of x v.pass.view.process) ≤ account.room
    → IsProcess x setup accounts script memory (record v { account = Some account })
attended x setup accounts script memory v account is had none room = record {
  session = is.session;
  some = is.some;
  own = is.own;
  same = is.same;
  outside = is.outside;
  planned = is.planned;
  within = is.within;
  packable = is.packable;
  good = is.good;
  fitting = is.fitting;
  stands = is.stands;
  alone = is.alone;
  audited = audited_first x v.pass.view.process (slice_get accounts (v.pass.view.process - 1)) v.state account had
      (subst (λ n. n ≤ account.room) (sym (lines_count x v.pass.view.process is.some)) room) none
      (begun_uncut x v.pass.view.process v.state none is.planned);
}

-- The same process, after some lines more, maybe none.
module _ (x : Outline) (setup : List journaled.Entry) (accounts : List Account) (script : List Line) (memory memory' : List Triple)
    (old new : ProcessValue) (is : IsProcess x setup accounts script memory old)
    (own : new.pass.view.process ≡ old.pass.view.process) (first : new.state.first ≡ old.state.first) (more : List Step)
    (steps : new.state.recording.steps ≡ old.state.recording.steps ++ more) where
  pub later : memory' ≡ new.pass.view.memory → new.pass.view.stage ≡ Outside
      → place_in x old.pass.view.process new.state ≤ length (lines_of x old.pass.view.process)
      → IsPackableControl new.state.control → IsGoodProgress new.state.control.registers new.state.progress
      → IsFittingAt new.state.progress
      → Stands x setup new.state new.missing (left_of x new.pass.view.process new.state) new.pass
      → IsAudited x old.pass.view.process (slice_get accounts (old.pass.view.process - 1)) new.state new.account
      → IsProcess x setup accounts script memory' new
  later same outside within packable good fitting stands audited = record {
    session = is.session;
    some = subst (λ p. 1 ≤ p) (sym own) is.some;
    own = is.own ∙ (λ i. drop (sym first i - first_line x (sym own i)) (script_of x (sym own i)));
    same = same;
    outside = outside;
    planned = subst (λ p. IsPlanned x p new.state) (sym own)
        (planned_on x old.pass.view.process old.state new.state first more steps is.planned);
    within = subst (λ p. place_in x p new.state ≤ length (lines_of x p)) (sym own) within;
    packable = packable;
    good = good;
    fitting = fitting;
    stands = stands;
    alone = subst (λ p. slice_get accounts (p - 1) ≡ None → IsUncut x p new.state) (sym own)
        (λ none. uncut_on x old.pass.view.process old.state new.state first (is.alone none));
    audited = subst (λ p. IsAudited x p (slice_get accounts (p - 1)) new.state new.account) (sym own) audited;
  }

-- with as many lines done
pub same_within : (x : Outline) (p : ℕ) (old new : LineState) → new.first ≡ old.first
    → new.recording.steps ≡ old.recording.steps → place_in x p old ≤ length (lines_of x p)
    → place_in x p new ≤ length (lines_of x p)
same_within x p old new first steps within =
    subst (λ n. n ≤ length (lines_of x p)) (λ i. (sym first i - first_line x p) + length (sym steps i)) within

-- nothing but the room of a process differs
module _ (x : Outline) (setup : List journaled.Entry) (old new : ProcessValue) (s : IsStill old new) where
  known_still : known_of new.pass ≡ known_of old.pass
  known_still = λ i. record {
    process = (s.view i).process;
    view = record {
      trace = map kept_in (s.view i).trace;
      history = marked_in (s.view i).history;
      floor = (s.view i).floor;
      amount = s.amount i;
    };
    told = λ n. all_told (s.view i).start (s.view i).told (s.view i).process n;
  }

  done_still : (trace : List Recorded) → known_of (having_done trace old.pass) ≡ known_of (having_done trace new.pass)
  done_still trace = λ i. record {
    process = (sym s.view i).process;
    view = record {
      trace = map kept_in trace;
      history = marked_in (sym s.view i).history;
      floor = (sym s.view i).floor;
      amount = sym s.amount i;
    };
    told = λ n. all_told (sym s.view i).start (sym s.view i).told (sym s.view i).process n;
  }

  work_still : (line : Line) (k : Known) → IsAtWork x setup old.state line k → IsAtWork x setup new.state line k
  work_still line k w = record {
    course = w.course;
    working = subst (λ (v : AtWork). IsWorking x setup k.process v k.view k.told) (λ i. record {
      ran = plan_by x k.process (sym s.first i);
      steps = sym s.steps i;
      number = sym s.first i + length (sym s.steps i);
      line = line;
      left = rest_by x k.process (sym s.first i) (sym s.steps i);
      now = sym s.control i;
      events = sym s.events i;
      course = w.course;
    }) w.working;
    come = subst (λ (g : Control). IsCome g line w.course new.state.progress) (sym s.control)
        (subst (λ (r : Progress). IsCome old.state.control line w.course r) (sym s.progress) w.come);
    filled = λ fill due. w.filled fill (sym s.progress ∙ due);
  }

  before_still : (left : List (ℕ × Line)) (k : Known) → IsBefore x setup old.state left k → IsBefore x setup new.state left k
  before_still [] k b = subst (λ (steps : List Step). HasWorked x setup k.process steps k.view) (sym s.steps) b
  before_still (line ∷ left) k b = work_still line.1 k b

  stands_still : (missing : Option Miss) (left : List (ℕ × Line)) → Stands x setup old.state missing left old.pass
      → Stands x setup new.state missing left new.pass
  stands_still None left b = subst (IsBefore x setup new.state left) (sym known_still) (before_still left (known_of old.pass) b)
  stands_still (Some m) [] b = b
  stands_still (Some m) (line ∷ left) b = record {
    front = b.front;
    last = ap (λ (v : PassView journaled.Entry). v.trace) s.view ∙ b.last;
    news = subst (λ (v : PassView journaled.Entry). all_told v.start v.told v.process m.segno < m.by) (sym s.view) b.news;
    unknown = ap (λ (v : PassView journaled.Entry). recalled m.segno v.memory) s.view ∙ b.unknown;
    asks = subst (λ (g : Control). AsksFor m.segno g line.1 new.state.progress) (sym s.control)
        (subst (AsksFor m.segno old.state.control line.1) (sym s.progress) b.asks);
    before = subst (IsAtWork x setup new.state line.1) (done_still b.front)
        (work_still line.1 (known_of (having_done b.front old.pass)) b.before);
  }

  pub still_process : (accounts : List Account) (script : List Line) (memory : List Triple)
      → IsProcess x setup accounts script memory old → IsProcess x setup accounts script memory new
  still_process accounts script memory is =
      let own : new.pass.view.process ≡ old.pass.view.process = ap (λ (v : PassView journaled.Entry). v.process) s.view in
      later x setup accounts script memory memory old new is own s.first []
      (s.steps ∙ sym (append-nil old.state.recording.steps))
      (is.same ∙ ap (λ (v : PassView journaled.Entry). v.memory) (sym s.view))
      (ap (λ (v : PassView journaled.Entry). v.stage) s.view ∙ is.outside)
      (same_within x old.pass.view.process old.state new.state s.first s.steps is.within)
      (subst IsPackableControl (sym s.control) is.packable)
      (subst (λ (g : Control). IsGoodProgress g.registers new.state.progress) (sym s.control)
      (subst (λ (r : Progress). IsGoodProgress old.state.control.registers r) (sym s.progress) is.good))
      (subst IsFittingAt (sym s.progress) is.fitting)
      (subst (λ (m : Option Miss). Stands x setup new.state m (left_of x new.pass.view.process new.state) new.pass)
      (sym s.missing) (subst (λ (l : List (ℕ × Line)). Stands x setup new.state old.missing l new.pass)
      (λ i. left_by x (sym own i) (sym s.first i) (sym s.steps i))
      (stands_still old.missing (left_of x old.pass.view.process old.state) is.stands)))
      (audited_same x old.pass.view.process old.pass.view.process accounts old.state new.state old.account new.account s.first
      s.steps refl s.account is.audited)

-- where no line is left a process has worked
pub has_worked : (x : Outline) (setup : List journaled.Entry) (state : LineState) (missing : Option Miss) (left : List (ℕ × Line))
    (o : PassValue journaled.Entry) → left ≡ [] → Stands x setup state missing left o
    → HasWorked x setup o.view.process state.recording.steps (view_in o)
has_worked x setup state None [] o e s = s
has_worked x setup state (Some m) [] o e s = absurd s
has_worked x setup state None (line ∷ left) o e s = absurd (cc)
has_worked x setup state (Some m) (line ∷ left) o e s = absurd (cc)

-- a line that is no request can be attempted
pub attempting : (x : Outline) (setup : List journaled.Entry) (accounts : List Account) (script : List Line) (memory : List Triple)
    (v : ProcessValue) (number : ℕ) (line : Line) → IsProcess x setup accounts script memory v → IsAtLine x v number line
    → IsNoRequest line → IsFree v.state.progress → v.missing ≡ None
    → IsAttempting x setup v.state line (known_of v.pass)
attempting x setup accounts script memory v number line is at other free settled = record {
  sayable = sayable_next x v.pass.view.process v.state is.some is.planned number line at.left is.session at.at;
  other = other;
  free = free;
  packable = is.packable;
  good = is.good;
  some = is.some;
  planned = is.planned;
  countable = countable_next x v.pass.view.process v.state is.some is.planned number line at.left is.session at.at;
  work = subst (λ (m : Option Miss). Stands x setup v.state m ((number, line) ∷ at.left) v.pass) settled
      (subst (λ (l : List (ℕ × Line)). Stands x setup v.state v.missing l v.pass) at.at is.stands);
}

-- which line is next
module _ (x : Outline) (setup : List journaled.Entry) (accounts : List Account) (script : List Line) (memory : List Triple)
    (v : ProcessValue) (is : IsProcess x setup accounts script memory v) where
  -- of its script it has as many lines as were not left out
  pub script_count : length script ≡ length (lines_of x v.pass.view.process) - left_out x v.pass.view.process v.state
  script_count =
      let own = ap (λ (l : List Line). length l) is.own in
      let left = length-drop (left_out x v.pass.view.process v.state) (script_of x v.pass.view.process) in
      let count = lines_count x v.pass.view.process is.some in
      omega (arith, own, left, count)

  -- the line at work is at the place that counts those done
  script_place : slice_get script (length v.state.recording.steps)
      ≡ slice_get (script_of x v.pass.view.process) (place_in x v.pass.view.process v.state)
  script_place =
      ap (λ (l : List Line). slice_get l (length v.state.recording.steps)) is.own
      ∙ got_behind (left_out x v.pass.view.process v.state) (script_of x v.pass.view.process) (length v.state.recording.steps)
    where
      got_behind : (k : ℕ) (lines : List Line) (n : ℕ) → slice_get (drop k lines) n ≡ slice_get lines (k + n)
      got_behind zero lines n = let none : n ≡ 0 + n = omega arith in ap (slice_get lines) none
      got_behind (suc k) [] n =
          slice_get_past (drop (suc k) []) n (none (suc k) n) ∙ sym (slice_get_past [] (suc k + n) (low (suc k + n)))
        where
          low : (m : ℕ) → length {A = Line} [] ≤ m
          low m = omega arith

          none : (j m : ℕ) → length (drop {A = Line} j []) ≤ m
          none j m = let count = length-drop {A = Line} j [] in omega (arith, count)
      got_behind (suc k) (line ∷ lines) n =
          let shift : suc (k + n) ≡ suc k + n = omega arith in
          got_behind k lines n ∙ ap (slice_get (line ∷ lines)) shift

  pub fewer_lines : HasLine x v → length v.state.recording.steps < length script
  fewer_lines has =
      let less = fewer_next x v.pass.view.process v.state is.some is.planned has.number has.line has.at.left has.at.at in
      let count = script_count in
      let lines = lines_count x v.pass.view.process is.some in
      omega (arith, less, count, lines)

  -- numbers of its lines have 32 bits
  pub script_fits : v.state.first + length script < 2 ^ 32
  script_fits =
      let low = first_low x v.pass.view.process v.state is.planned in
      let fit = numbers_fit x v.pass.view.process is.some is.session in
      let count = script_count in
      let lines = lines_count x v.pass.view.process is.some in
      let within = is.within in
      omega (arith, low, fit, count, lines, within)

  module _ (n : ℕ) (count : n ≡ length v.state.recording.steps) where
    pub line_next : (line : Line) → slice_get script n ≡ Some line → (number : ℕ) × IsAtLine x v number line
    line_next line e = (
      number_in v.state,
      record {
        left = drop (suc (place_in x v.pass.view.process v.state)) (lines_of x v.pass.view.process);
        at = script_next x v.pass.view.process v.state is.some is.planned line
            (sym script_place ∙ ap (slice_get script) (sym count) ∙ e);
      },
    )

    fewer : HasLine x v → n < length script
    fewer has = let less = fewer_lines has in omega (arith, less, count)

    pub no_line : slice_get script n ≡ None → HasLine x v → ⊥
    no_line e has =
        let past = past_end script n e in
        let less = fewer has in
        absurd (omega (arith, past, less))

    found : (xs : List Line) (k : ℕ) → k < length xs → (line : Line) × (slice_get xs k ≡ Some line)
    found [] k less = absurd (omega (arith, less))
    found (y ∷ xs) zero less = (y, refl)
    found (y ∷ xs) (suc k) less = found xs k (omega (arith, less))

    pub line_left : (IsTrue (nat_lt n (length script)) → HasLine x v) × (HasLine x v → IsTrue (nat_lt n (length script)))
    line_left = (λ less. left (below n (length script) less), λ has. above n (length script) (fewer has))
      where
        below : (a b : ℕ) → IsTrue (nat_lt a b) → a < b
        below a b e = grind (arith, nat_tests)

        above : (a b : ℕ) → a < b → IsTrue (nat_lt a b)
        above a b e = grind (arith, nat_tests)

        left : n < length script → HasLine x v
        left less =
            let line = found script n less in
            let next = line_next line.0 line.1 in
            record { number = next.0; line = line.0; at = next.1 }
