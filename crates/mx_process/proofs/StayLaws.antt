-- What holds of a process in a stay inside, line by line.
use Rattle.std.proofs.Common.{◌≡◌, ℕ, ◌+◌, ◌-◌, ◌<◌, ◌≤◌, ◌^◌, List, [], ◌∷◌, ◌++◌, length, length-append, append_assoc, append-nil, Option, Some, None, Result, Ok, Err, OnOk, OnErr, refl, sym, ◌∙◌, ap, subst, arith}
use Rattle.std.proofs.lemmas.List.{length-drop}
use Rattle.std.specs.List.{slice_get}
use Rattle.mx_audit.specs.Accounts.{Account}
use Rattle.mx_core.specs.declared.words.Triple.{Triple}
use Rattle.mx_desc.specs.Passes.{PassValue}
use Rattle.mx_line.specs.AtWork.{IsFree}
use Rattle.mx_line.specs.Fills.{IsNoRequest}
use Rattle.mx_line.specs.declared.fills.Fill.{Fill}
use Rattle.mx_line.specs.declared.operands.Progress.{Progress}
use Rattle.mx_line.specs.declared.operands.Progress.TheVariants.{Before, Filling, Waiting}
use Rattle.mx_line.specs.declared.processes.Process.{Process as LineState}
use Rattle.mx_request.specs.declared.requests.Request.TheVariants.{Block, Logout}
use Rattle.mx_rule.specs.Entering.{connected_view, entered_view}
use Rattle.mx_rule.specs.declared.views.PassView.{PassView}
use Rattle.mx_script.specs.Sessions.{Outline}
use Rattle.mx_script.specs.declared.lines.Line.{Line}
use Rattle.mx_sdw.specs.declared.denials.Denial.{Denial}
use Rattle.mx_state.specs.declared.journal.Entry as journaled
use Rattle.mx_transcript.proofs.DenialLaws.{denials_append, last_of}
use Rattle.mx_transcript.specs.Denials.{denials, last_denial}
use Rattle.mx_transcript.specs.Scripts.{lines_of}
use Rattle.mx_transcript.specs.Transcripts.{Step}
use Rattle.mx_process.proofs.AttemptLaws.{IsOut, attempt_left, done_process, line_behind, linking_process, missed_process}
use Rattle.mx_process.proofs.AuditLaws.{audit_room, audited_none, one_denial}
use Rattle.mx_process.proofs.HeedLaws.{heeded_process}
use Rattle.mx_process.proofs.LegLaws.{at_line_on, ended_fewer, gone_same, gone_still, never_waiting, own_on}
use Rattle.mx_process.proofs.PlanLaws.{left_by}
use Rattle.mx_process.proofs.ProcessLaws.{attempting, line_next, script_count, script_fits, still_process}
use Rattle.mx_process.specs.Audited.{IsAudited, as_list}
use Rattle.mx_process.specs.Lines.{HasEnded, HasGoneOn, HasNoLine, IsAwake, IsOwn}
use Rattle.mx_process.specs.Heeding.{HasHeeded}
use Rattle.mx_process.specs.Plans.{left_of, place_in}
use Rattle.mx_process.specs.Processes.{HasLine, IsAtLine, IsProcess, IsStill, ProcessValue, Stands, known_of}
use Rattle.mx_process.specs.Stays.{HasDenied, HasDoneMore, HasDoneNext, HasFewerLines, HasHurried, HasStayed, IsUnaudited, gone_out, unaudited}
use Rattle.mx_process.specs.Turns.{Ends, Inside, IsAttempting, IsSameLine, IsUntold, Links, Misses, inside}
use Rattle.mx_process.specs.declared.misses.Fast.TheVariants as fast
use Rattle.mx_process.specs.declared.misses.Miss.{Miss}
use Rattle.mx_process.specs.declared.stays.Stayed.{Stayed}
use Rattle.mx_process.specs.declared.stays.Stayed.TheVariants as stayed

-- before a line nobody waits
before_awake : Before ≡ Waiting → ⊥
before_awake e = cc

-- and no write is due
before_free : (progress : Progress) → progress ≡ Before → IsFree progress
before_free progress before fill due = apart fill (sym before ∙ due)
  where
    apart : (fill : Fill) → Before ≡ Filling fill → ⊥
    apart fill e = cc

module _ (x : Outline) (setup : List journaled.Entry) (accounts : List Account) (script : List Line) where
  -- a process without its auditor
  pub without_auditor : (memory : List Triple) (v : ProcessValue) → IsProcess x setup accounts script memory v
      → v.missing ≡ None → IsUnaudited x setup accounts script None (inside v.state v.pass)
  without_auditor memory v is settled = record {
    session = is.session;
    some = is.some;
    own = is.own;
    same = refl;
    outside = is.outside;
    planned = is.planned;
    within = is.within;
    packable = is.packable;
    good = is.good;
    fitting = is.fitting;
    stands = subst (λ (m : Option Miss). Stands x setup v.state m (left_of x v.pass.view.process v.state) v.pass)
        settled is.stands;
    alone = is.alone;
    audited = tt;
  }

  -- and with it
  pub with_auditor : (memory : List Triple) (missing : Option Miss) (v : Inside) (account : Option Account)
      → IsUnaudited x setup accounts script missing v → memory ≡ v.pass.view.memory
      → IsAudited x v.pass.view.process (slice_get accounts (v.pass.view.process - 1)) v.state account
      → IsProcess x setup accounts script memory (record { state = v.state; missing = missing; pass = v.pass; account = account })
  with_auditor memory missing v account is same audited = record {
    session = is.session;
    some = is.some;
    own = is.own;
    same = same;
    outside = is.outside;
    planned = is.planned;
    within = is.within;
    packable = is.packable;
    good = is.good;
    fitting = is.fitting;
    stands = is.stands;
    alone = is.alone;
    audited = audited;
  }

  -- going in changes nothing of it
  pub entered_whole : (state : LineState) (cleared : ℕ) (o o' : PassValue journaled.Entry)
      → o' ≡ record o { view = connected_view cleared (entered_view o.view) }
      → IsUnaudited x setup accounts script None (inside state o)
      → IsUnaudited x setup accounts script None (gone_out (inside state o'))
  entered_whole state cleared o o' e is =
      subst (λ (z : PassValue journaled.Entry). IsUnaudited x setup accounts script None (gone_out (inside state z))) (sym e) (record {
        session = is.session;
        some = is.some;
        own = is.own;
        same = refl;
        outside = refl;
        planned = is.planned;
        within = is.within;
        packable = is.packable;
        good = is.good;
        fitting = is.fitting;
        stands = is.stands;
        alone = is.alone;
        audited = tt;
      })

  -- no line has ended
  pub hurried_none : (v : Inside) → IsUnaudited x setup accounts script None v → v.state.progress ≡ Before
      → HasHurried x setup accounts script v None None v
  hurried_none v is before = record {
    whole = is;
    first = refl;
    awake = λ waits. before_awake (sym before ∙ waits);
    process = refl;
    more = [];
    steps = sym (append-nil v.state.recording.steps);
    denied = refl;
  }

  pub hurried_entered : (state : LineState) (cleared : ℕ) (o o' : PassValue journaled.Entry)
      → o' ≡ record o { view = connected_view cleared (entered_view o.view) }
      → IsUnaudited x setup accounts script None (inside state o) → state.progress ≡ Before
      → HasHurried x setup accounts script (inside state o) None None (gone_out (inside state o'))
  hurried_entered state cleared o o' e is before = record {
    whole = entered_whole state cleared o o' e is;
    first = refl;
    awake = λ waits. before_awake (sym before ∙ waits);
    process = ap (λ (z : PassValue journaled.Entry). z.view.process) e;
    more = [];
    steps = sym (append-nil state.recording.steps);
    denied = refl;
  }

  -- nothing but the room differs
  pub still_whole : (old new : Inside) → IsStill (unaudited None old) (unaudited None new)
      → IsUnaudited x setup accounts script None old → IsUnaudited x setup accounts script None new
  still_whole old new s is =
      subst (λ (memory : List Triple). IsProcess x setup accounts script memory (unaudited None new))
      (sym (ap (λ (v : PassView journaled.Entry). v.memory) s.view))
      (still_process x setup (unaudited None old) (unaudited None new) s accounts script old.pass.view.memory is)

  pub hurried_still : (old new : Inside) → IsStill (unaudited None old) (unaudited None new)
      → IsUnaudited x setup accounts script None old → old.state.progress ≡ Before
      → HasHurried x setup accounts script old None None new
  hurried_still old new s is before = record {
    whole = still_whole old new s is;
    first = s.first;
    awake = λ waits. before_awake (sym (s.progress ∙ before) ∙ waits);
    process = ap (λ (v : PassView journaled.Entry). v.process) s.view;
    more = [];
    steps = s.steps ∙ sym (append-nil old.state.recording.steps);
    denied = refl;
  }

  -- some lines, and then others
  module _ (a b c : Inside) (g : HasHurried x setup accounts script a None None b) where
    pub hurried_on : (missing : Option Miss) (told : Option (ℕ × Denial)) → HasHurried x setup accounts script b missing told c
        → HasHurried x setup accounts script a missing told c
    hurried_on missing told h = record {
      whole = h.whole;
      first = h.first ∙ g.first;
      awake = h.awake;
      process = h.process ∙ g.process;
      more = g.more ++ h.more;
      steps = h.steps ∙ ap (λ (l : List Step). l ++ h.more) g.steps ∙ append_assoc a.state.recording.steps g.more h.more;
      denied = denials_append g.more h.more ∙ ap (λ (l : List (ℕ × Denial)). l ++ denials h.more) g.denied ∙ h.denied;
    }

    pub stayed_on : (came : Stayed) → HasStayed x setup accounts script b came c → HasStayed x setup accounts script a came c
    stayed_on stayed.Over h = hurried_on None None h
    stayed_on stayed.Denied h =
        record {
          told = h.told;
          last = h.last;
          hurried = hurried_on None (Some h.told) h.hurried;
          fresh = h.fresh;
          idle = h.idle;
          within = h.within;
        }
    stayed_on (stayed.Missing m) h = hurried_on (Some m) None h

    pub next_on : (came : Option Stayed) → HasDoneNext x setup accounts script b came c → HasDoneNext x setup accounts script a came c
    next_on None h = (hurried_on None None h.0, h.1)
    next_on (Some came) h = stayed_on came h

  -- the next line
  pub at_next : (old new : Inside) (n : ℕ) (line : Line) → IsUnaudited x setup accounts script None old
      → IsStill (unaudited None old) (unaudited None new) → n ≡ length old.state.recording.steps
      → slice_get script n ≡ Some line → (number : ℕ) × IsAtLine x (unaudited None new) number line
  at_next old new n line is s count e =
      let at = line_next x setup accounts script old.pass.view.memory (unaudited None old) is n count line e in
      (at.0, at_line_on x (unaudited None old) (unaudited None new) at.0 line (gone_still (unaudited None old) (unaudited None new) s) at.1)

  -- A line that is no request is done in a stay.
  module _ (line : Line) (state state' : LineState) (o o' : PassValue journaled.Entry)
      (is : IsUnaudited x setup accounts script None (gone_out (inside state o)))
      (at : (number : ℕ) × IsAtLine x (unaudited None (gone_out (inside state o))) number line)
      (other : IsNoRequest line) where
    pub line_begins : state.progress ≡ Before → IsAttempting x setup state line (known_of o)
    line_begins before =
        attempting x setup accounts script o.view.memory (unaudited None (gone_out (inside state o))) at.0 line is at.1 other
        (before_free state.progress before) refl

    out : IsUntold o o' → IsOut x setup accounts script o.view.memory o'.view.memory (unaudited None (gone_out (inside state o))) state'
        (gone_out (inside state' o')).pass line
    out untold = record {
      is = is;
      same = refl;
      outside = refl;
      untold = record { process = untold.process; history = untold.history; told = untold.told; amount = untold.amount };
    }

    ended_out : Ends x setup state (inside state' o') → Ends x setup state (gone_out (inside state' o'))
    ended_out e = attempt_left x setup line state state' o' fast.Done (gone_out (inside state' o')).pass refl e

    -- it ended
    pub line_done : (told : Option (ℕ × Denial)) → last_denial state'.recording.steps ≡ told → IsUntold o o'
        → Ends x setup state (inside state' o')
        → HasHurried x setup accounts script (gone_out (inside state o)) None told (gone_out (inside state' o'))
    line_done told last untold e = record {
      whole = done_process x setup accounts script o.view.memory o'.view.memory (unaudited None (gone_out (inside state o))) state'
          (gone_out (inside state' o')).pass line (out untold) at.0 at.1 (ended_out e);
      first = e.first;
      awake = λ waits. before_awake (sym e.fresh ∙ waits);
      process = untold.process;
      more = (state.first + length state.recording.steps, state.recording.events ++ e.more, e.ends) ∷ [];
      steps = e.steps;
      denied = one_denial (state.first + length state.recording.steps, state.recording.events ++ e.more, e.ends)
          ∙ ap as_list (sym (last_of state.recording.steps _) ∙ ap last_denial (sym e.steps) ∙ last);
    }

    pub line_denied : (told : ℕ × Denial) → last_denial state'.recording.steps ≡ Some told → IsUntold o o'
        → Ends x setup state (inside state' o')
        → HasDenied x setup accounts script (gone_out (inside state o)) (gone_out (inside state' o'))
    line_denied told last untold e = record {
      told = told;
      last = last;
      hurried = line_done (Some told) last untold e;
      fresh = e.fresh;
      idle = e.idle;
      within = line_behind x setup accounts script o.view.memory (unaudited None (gone_out (inside state o))) state' at.0 line
          (state.first + length state.recording.steps, state.recording.events ++ e.more, e.ends) is at.1 (other Logout) e.steps;
    }

    at_still : IsUntold o o' → IsSameLine state state' → (missing : Option Miss)
        → IsAtLine x (unaudited missing (gone_out (inside state' o'))) at.0 line
    at_still untold same missing =
        record { left = at.1.left; at = (λ i. left_by x (untold.process i) (same.first i) (same.steps i)) ∙ at.1.at }

    -- it goes on, or waits for its miss to be settled
    onward : (missing : Option Miss) → IsUntold o o' → IsSameLine state state'
        → IsUnaudited x setup accounts script missing (gone_out (inside state' o'))
        → HasHurried x setup accounts script (gone_out (inside state o)) missing None (gone_out (inside state' o'))
    onward missing untold same whole = record {
      whole = whole;
      first = same.first;
      awake = never_waiting x setup accounts script o'.view.memory (unaudited missing (gone_out (inside state' o'))) at.0 line whole
          (at_still untold same missing) (other Block);
      process = untold.process;
      more = [];
      steps = same.steps ∙ sym (append-nil state.recording.steps);
      denied = refl;
    }

    pub line_missed : (segno by : ℕ) → IsUntold o o' → Misses x setup line state (record { segno = segno; by = by }) (inside state' o')
        → HasHurried x setup accounts script (gone_out (inside state o)) (Some (record { segno = segno; by = by })) None
        (gone_out (inside state' o'))
    line_missed segno by untold e =
        onward (Some (record { segno = segno; by = by })) untold e.same
        (missed_process x setup accounts script o.view.memory o'.view.memory (unaudited None (gone_out (inside state o))) state'
        (gone_out (inside state' o')).pass line (out untold) (record { segno = segno; by = by }) at.0 at.1
        (attempt_left x setup line state state' o' (fast.Missing segno by) (gone_out (inside state' o')).pass refl e))

    pub line_linked : (segno word ring : ℕ) → IsUntold o o'
        → Links x setup line state (record { segno = segno; word = word; ring = ring }) (inside state' o')
        → HasHurried x setup accounts script (gone_out (inside state o)) None None (gone_out (inside state' o'))
    line_linked segno word ring untold e =
        onward None untold e.same
        (linking_process x setup accounts script o.view.memory o'.view.memory (unaudited None (gone_out (inside state o))) state'
        (gone_out (inside state' o')).pass line (out untold) (record { segno = segno; word = word; ring = ring }) at.0 at.1
        (attempt_left x setup line state state' o' (fast.Link segno word ring) (gone_out (inside state' o')).pass refl e))

-- The auditor after a stay.
module _ (x : Outline) (setup : List journaled.Entry) (accounts : List Account) (script : List Line) (memory memory' : List Triple)
    (old : ProcessValue) (new : Inside) (is : IsProcess x setup accounts script memory old) where
  before_is : (missing : Option Miss) (told : Option (ℕ × Denial))
      → HasHurried x setup accounts script (inside old.state old.pass) missing told new
      → IsAudited x new.pass.view.process (slice_get accounts (new.pass.view.process - 1)) old.state old.account
  before_is missing told h =
      subst (λ p. IsAudited x p (slice_get accounts (p - 1)) old.state old.account) (sym h.process) is.audited

  -- no line was denied
  pub hurried_process : (missing : Option Miss) → HasHurried x setup accounts script (inside old.state old.pass) missing None new
      → memory' ≡ new.pass.view.memory
      → IsProcess x setup accounts script memory'
      (record { state = new.state; missing = missing; pass = new.pass; account = old.account })
  hurried_process missing h same =
      with_auditor x setup accounts script memory' missing new old.account h.whole same
      (audited_none x new.pass.view.process (slice_get accounts (new.pass.view.process - 1)) old.state new.state h.more h.first
      h.steps old.account h.denied (before_is missing None h))

  -- the last one was: it was told of it
  pub denied_process : (d : HasDenied x setup accounts script (inside old.state old.pass) new) → memory' ≡ new.pass.view.memory
      → (account' : Option Account) (state' : LineState) (script' : List Line)
      → HasHeeded (Some d.told) old.account new.state script account' state' script'
      → IsProcess x setup accounts script' memory' (record { state = state'; missing = None; pass = new.pass; account = account' })
  denied_process d same account' state' script' heeded =
      heeded_process x setup accounts script memory' new.state new.pass
      (with_auditor x setup accounts script memory' None new None d.hurried.whole same tt) d.fresh d.idle old.state d.hurried.more
      d.hurried.first d.hurried.steps (Some d.told) old.account account' state' script' (before_is None (Some d.told) d.hurried)
      d.hurried.denied d.last d.within heeded

  pub numbers_stayed : HasDenied x setup accounts script (inside old.state old.pass) new → new.state.first + length script < 2 ^ 32
  numbers_stayed d =
      subst (λ n. n + length script < 2 ^ 32) (sym d.hurried.first) (script_fits x setup accounts script memory old is)

  -- its auditor has room for the denial
  pub room_to_tell : HasDenied x setup accounts script (inside old.state old.pass) new → (account : Account)
      → old.account ≡ Some account
      → 1 ≤ account.room
  room_to_tell d =
      audit_room x old.pass.view.process (slice_get accounts (old.pass.view.process - 1)) old.state old.account
      (few old.state.recording.steps d.hurried.more d.hurried.steps d.within) is.audited
    where
      few : (steps more : List Step) → new.state.recording.steps ≡ steps ++ more → length new.state.recording.steps < length script
          → length steps < length (lines_of x old.pass.view.process)
      few steps more e less =
          let count = ap (λ (l : List Step). length l) e ∙ length-append steps more in
          let all = script_count x setup accounts script memory old is in
          omega (arith, count, all, less)

-- what holds in any case holds after want of memory
pub if_err : {T E : Type 0} (P : Type 0) (result : Result T E) → P → OnErr result P
if_err P (Ok done) p = tt
if_err P (Err error) p = p

-- Lines that ended in a stay, and what comes after them.
module _ (x : Outline) (a b c : ProcessValue) (m : HasDoneMore a b) where
  no_more : length (left_of x b.pass.view.process b.state) ≤ length (left_of x a.pass.view.process a.state)
  no_more =
      let lines = lines_of x a.pass.view.process in
      let later = m.onward in
      let count = ap (λ (l : List Step). length l) m.steps ∙ length-append a.state.recording.steps m.more in
      let place : place_in x a.pass.view.process a.state ≤ place_in x a.pass.view.process b.state = omega (arith, later, count) in
      let after : length (left_of x b.pass.view.process b.state) ≡ length lines - place_in x a.pass.view.process b.state
      = ap (λ p. length (left_of x p b.state)) m.own.process ∙ length-drop (place_in x a.pass.view.process b.state) lines in
      let before : length (left_of x a.pass.view.process a.state) ≡ length lines - place_in x a.pass.view.process a.state
      = length-drop (place_in x a.pass.view.process a.state) lines in
      omega (arith, place, after, before)

  -- the next line ended too
  pub then_fewer : {T E : Type 0} (result : Result T E) → HasLine x b → OnOk result (HasEnded b c) → OnOk result (HasFewerLines x a c)
  then_fewer (Ok done) has e =
      let less = ended_fewer x b c has.number has.line has.at e in
      let most = no_more in
      omega (arith, less, most)
  then_fewer (Err error) has e = tt

  pub then_awake : {T E : Type 0} (result : Result T E) → OnOk result (HasEnded b c) → OnOk result (IsAwake c)
  then_awake (Ok done) e = λ waits. before_awake (sym e.fresh ∙ waits)
  then_awake (Err error) e = tt

  pub then_own : {T E : Type 0} (result : Result T E) → OnOk result (HasEnded b c) → OnErr result (HasGoneOn b c) → IsOwn a c
  then_own (Ok done) e err = own_on a b c m.own e.own
  then_own (Err error) e err = own_on a b c m.own err.own

  -- no line is left
  pub none_fewer : HasLine x a → HasNoLine x b → HasFewerLines x a b
  none_fewer has none =
      let none = ap (λ (l : List (ℕ × Line)). length l) none in
      let some = ap (λ (l : List (ℕ × Line)). length l) has.at.at in
      omega (arith, none, some)

pub same_more : (v : ProcessValue) → HasDoneMore v v
same_more v = let gone = gone_same v in record {
  own = gone.own;
  onward = low v.state.first;
  more = [];
  steps = sym (append-nil v.state.recording.steps);
}
  where
    low : (n : ℕ) → n ≤ n
    low n = omega arith
