-- What a process's type says holds after an attempt at a line.
use Rattle.std.proofs.Common.{◌≡◌, ℕ, suc, ◌+◌, ◌<◌, ◌-◌, ◌≤◌, ◌^◌, List, [], ◌∷◌, ◌++◌, append-nil, length, length-append, Option, Some, None, refl, sym, ◌∙◌, ap, subst, arith}
use Rattle.std.specs.List.{slice_get}
use Rattle.mx_audit.specs.Accounts.{Account}
use Rattle.mx_core.specs.AssociativeMemory.{recalled}
use Rattle.mx_core.specs.declared.words.Stage.TheVariants.{Outside}
use Rattle.mx_core.specs.declared.words.Triple.{Triple}
use Rattle.mx_desc.specs.Passes.{PassValue}
use Rattle.mx_line.specs.Operands.{IsGoodProgress}
use Rattle.mx_line.specs.declared.operands.Place.{Place}
use Rattle.mx_line.specs.declared.processes.Process.{Process as LineState}
use Rattle.mx_request.specs.declared.requests.Request.TheVariants.{Logout}
use Rattle.mx_rule.specs.Entering.{connected_view, entered_view, left_view}
use Rattle.mx_script.specs.Sessions.{Outline}
use Rattle.mx_script.specs.declared.lines.Line.{Line}
use Rattle.mx_script.specs.declared.lines.Line.TheVariants.{Ask}
use Rattle.mx_state.specs.declared.journal.Entry as journaled
use Rattle.mx_sdw.specs.declared.denials.Denial.{Denial}
use Rattle.mx_transcript.proofs.DenialLaws.{last_of}
use Rattle.mx_transcript.specs.Denials.{last_denial}
use Rattle.mx_transcript.specs.Scripts.{lines_of}
use Rattle.mx_transcript.specs.Transcripts.{Step}
use Rattle.mx_upcall.specs.Soundness.{IsPackableControl}
use Rattle.mx_line.specs.AtWork.{IsFree}
use Rattle.mx_line.specs.Fills.{IsNoRequest}
use Rattle.mx_process.proofs.AuditLaws.{audit_room, audited_same, one_denial}
use Rattle.mx_process.proofs.HeedLaws.{heeded_attended, heeded_cut, heeded_process}
use Rattle.mx_process.proofs.PlanLaws.{left_by, more_next, place_next, within_next}
use Rattle.mx_process.proofs.ProcessLaws.{attempting, fitting_before, later, same_within, script_count, script_fits}
use Rattle.mx_process.proofs.TurnLaws.{same_line}
use Rattle.mx_process.specs.Attempts.{HasAttempted, HasDone, HasMissed, IsAtLinkIn}
use Rattle.mx_process.specs.Audited.{IsAudited, as_list}
use Rattle.mx_process.specs.Heeding.{HasHeeded}
use Rattle.mx_process.specs.Plans.{IsPlanned, MayBeCut, left_of, number_in, place_in}
use Rattle.mx_process.specs.Processes.{ProcessValue, IsAtLine, IsAtWork, IsFittingAt, IsProcess, Stands, known_of}
use Rattle.mx_process.specs.Turns.{Ends, IsAttempting, IsSameLine, IsUntold, Links, Misses, inside}
use Rattle.mx_process.specs.declared.misses.Fast.{Fast}
use Rattle.mx_process.specs.declared.misses.Fast.TheVariants as fast
use Rattle.mx_process.specs.declared.misses.Miss.{Miss}

-- going in and out tells a process nothing
pub untold_entered : (cleared : ℕ) (o o' : PassValue journaled.Entry)
    → o' ≡ record o { view = connected_view cleared (entered_view o.view) } → IsUntold o o'
untold_entered cleared o o' e = record {
  process = ap (λ (z : PassValue journaled.Entry). z.view.process) e;
  history = ap (λ (z : PassValue journaled.Entry). z.view.history) e;
  told = λ n. ap (λ (z : PassValue journaled.Entry). (known_of z).told n) e;
  amount = ap (λ (z : PassValue journaled.Entry). z.amount) e;
}

pub untold_left : (o o' : PassValue journaled.Entry) → o' ≡ record o { view = left_view o.view } → IsUntold o o'
untold_left o o' e = record {
  process = ap (λ (z : PassValue journaled.Entry). z.view.process) e;
  history = ap (λ (z : PassValue journaled.Entry). z.view.history) e;
  told = λ n. ap (λ (z : PassValue journaled.Entry). (known_of z).told n) e;
  amount = ap (λ (z : PassValue journaled.Entry). z.amount) e;
}

pub attempting_entered : (x : Outline) (setup : List journaled.Entry) (state : LineState) (line : Line) (cleared : ℕ)
    (o o' : PassValue journaled.Entry) → o' ≡ record o { view = connected_view cleared (entered_view o.view) }
    → IsAttempting x setup state line (known_of o) → IsAttempting x setup state line (known_of o')
attempting_entered x setup state line cleared o o' e a =
    subst (IsAttempting x setup state line) (sym (ap known_of e)) a

-- an attempt that came to this inside came to it outside
module _ (x : Outline) (setup : List journaled.Entry) (line : Line) (old state : LineState) (o : PassValue journaled.Entry) where
  came_out : (came : Fast) → HasAttempted x setup line old came (inside state o)
      → HasAttempted x setup line old came (inside state (record o { view = left_view o.view }))
  came_out fast.Done e = record {
    more = e.more;
    ends = e.ends;
    steps = e.steps;
    idle = e.idle;
    fresh = e.fresh;
    first = e.first;
    packable = e.packable;
    before = e.before;
  }
  came_out (fast.Missing segno by) m = record {
    same = m.same;
    good = m.good;
    fitting = m.fitting;
    missing = record {
      front = m.missing.front;
      last = m.missing.last;
      news = m.missing.news;
      unknown = m.missing.unknown;
      asks = m.missing.asks;
      before = m.missing.before;
    };
  }
  came_out (fast.Link segno word ring) l =
      record { same = l.same; attempting = l.attempting; linking = l.linking }
  came_out fast.Journal e = e

  pub attempt_left : (came : Fast) (o' : PassValue journaled.Entry) → o' ≡ record o { view = left_view o.view }
      → HasAttempted x setup line old came (inside state o) → HasAttempted x setup line old came (inside state o')
  attempt_left came o' e a =
      subst (λ (z : PassValue journaled.Entry). HasAttempted x setup line old came (inside state z)) (sym e) (came_out came a)

-- fewer lines are done than its script has
fewer_done : (x : Outline) (v : ProcessValue) (number : ℕ) (line : Line) → 1 ≤ v.pass.view.process
    → IsPlanned x v.pass.view.process v.state → IsAtLine x v number line
    → length v.state.recording.steps < length (lines_of x v.pass.view.process)
fewer_done x v number line some planned at =
    let less = within_next x v.pass.view.process v.state some planned number line at.left at.at in omega (arith, less)

-- behind one that is no `logout` a line is left
pub line_behind : (x : Outline) (setup : List journaled.Entry) (accounts : List Account) (script : List Line) (memory : List Triple)
    (old : ProcessValue) (state : LineState) (number : ℕ) (line : Line) (step : Step)
    → IsProcess x setup accounts script memory old → IsAtLine x old number line → (line ≡ Ask Logout → ⊥)
    → state.recording.steps ≡ old.state.recording.steps ++ step ∷ [] → length state.recording.steps < length script
line_behind x setup accounts script memory old state number line step is at other steps =
    let behind = more_next x old.pass.view.process old.state is.some is.planned number line at.left is.session at.at other in
    let all = script_count x setup accounts script memory old is in
    let one = ap (λ (l : List Step). length l) steps ∙ length-append old.state.recording.steps (step ∷ []) in
    omega (arith, behind, all, one)

pub onward_by : (old state state' : LineState) → state.first ≡ old.first → MayBeCut state state' → old.first ≤ state'.first
onward_by old state state' first cut =
    let is = ap (λ (s : LineState). s.first) cut.is in omega (arith, first, is)

-- An attempt was made, from one value of a process to another.
module _ (x : Outline) (setup : List journaled.Entry) (accounts : List Account) (script : List Line) (memory memory' : List Triple)
    (old : ProcessValue) (state : LineState) (o : PassValue journaled.Entry) (line : Line) where
  -- what holds of the pass after it
  pub record IsOut : Type 0 where
    pub is : IsProcess x setup accounts script memory old
    pub same : memory' ≡ o.view.memory
    pub outside : o.view.stage ≡ Outside
    pub untold : IsUntold old.pass o

  abbrev pub value_of : Option Miss → Option Account → ProcessValue
  value_of missing account = record { state = state; missing = missing; pass = o; account = account }

  -- the lines that ended since
  module _ (missing : Option Miss) (account : Option Account) (more : List Step) (first : state.first ≡ old.state.first)
      (steps : state.recording.steps ≡ old.state.recording.steps ++ more) where
    made : (out : IsOut) → place_in x old.pass.view.process state ≤ length (lines_of x old.pass.view.process)
        → IsPackableControl state.control → IsGoodProgress state.control.registers state.progress → IsFittingAt state.progress
        → Stands x setup state missing (left_of x o.view.process state) o
        → IsAudited x old.pass.view.process (slice_get accounts (old.pass.view.process - 1)) state account
        → IsProcess x setup accounts script memory' (value_of missing account)
    made out within packable good fitting stands audited =
        later x setup accounts script memory memory' old (value_of missing account) out.is out.untold.process first more steps out.same
        out.outside within packable good fitting stands audited

  -- the line ended; its auditor was not told yet
  pub done_process : (out : IsOut) (number : ℕ) → IsAtLine x old number line → Ends x setup old.state (inside state o)
      → IsProcess x setup accounts script memory' (value_of None None)
  done_process out number at e =
      made None None (step ∷ []) e.first e.steps out
      (within (within_next x old.pass.view.process old.state out.is.some out.is.planned number line at.left at.at)
      (place_next x old.pass.view.process old.state state step e.first e.steps))
      e.packable (subst (IsGoodProgress state.control.registers) (sym e.fresh) tt)
      (subst IsFittingAt (sym e.fresh) fitting_before) e.before tt
    where
      step : Step
      step = (number_in old.state, old.state.recording.events ++ e.more, e.ends)

      within : {a b n : ℕ} → suc a ≤ n → b ≡ suc a → b ≤ n
      within {a} {b} {n} less is = omega (arith, less, is)

  -- and then was, and its verdict heeded
  module _ (told : Option (ℕ × Denial)) (account' : Option Account) (state' : LineState) (script' : List Line)
      (heeded : HasHeeded told old.account state script account' state' script') where
    abbrev pub value_then : ProcessValue
    value_then = record { state = state'; missing = None; pass = o; account = account' }

    pub heeded_then : (out : IsOut) (number : ℕ) → IsAtLine x old number line → (line ≡ Ask Logout → ⊥)
        → Ends x setup old.state (inside state o) → last_denial state.recording.steps ≡ told
        → IsProcess x setup accounts script' memory' value_then
    heeded_then out number at other e last =
        heeded_process x setup accounts script memory' state o (done_process out number at e) e.fresh e.idle old.state
        (step ∷ []) e.first e.steps told old.account account' state' script'
        (subst (λ p. IsAudited x p (slice_get accounts (p - 1)) old.state old.account) (sym out.untold.process) out.is.audited)
        (one_denial step ∙ ap as_list (sym (last_of old.state.recording.steps step) ∙ ap last_denial (sym e.steps) ∙ last)) last
        (line_behind x setup accounts script memory old state number line step out.is at other e.steps) heeded
      where
        step : Step
        step = (number_in old.state, old.state.recording.events ++ e.more, e.ends)

    pub has_done : Ends x setup old.state (inside state o) → IsUntold old.pass o → HasDone old value_then
    has_done e untold =
        let cut = heeded_cut told old.account account' state state' script script' heeded in record {
          onward = onward_by old.state state state' e.first cut;
          more = e.more;
          ends = e.ends;
          steps = ap (λ (s : LineState). s.recording.steps) cut.is ∙ e.steps;
          idle = ap (λ (s : LineState). s.recording.events) cut.is ∙ e.idle;
          fresh = ap (λ (s : LineState). s.progress) cut.is ∙ e.fresh;
          settled = refl;
          attended = heeded_attended told old.account account' state state' script script' heeded;
          untold = untold;
        }

  still_audited : (out : IsOut) → IsSameLine old.state state
      → IsAudited x old.pass.view.process (slice_get accounts (old.pass.view.process - 1)) state old.account
  still_audited out same =
      audited_same x old.pass.view.process old.pass.view.process accounts old.state state old.account old.account same.first
      same.steps refl refl out.is.audited

  -- the same line is next
  left_is : IsUntold old.pass o → IsSameLine old.state state
      → left_of x o.view.process state ≡ left_of x old.pass.view.process old.state
  left_is untold same = λ i. left_by x (untold.process i) (same.first i) (same.steps i)

  -- a reference missed
  pub missed_process : (out : IsOut) (m : Miss) (number : ℕ) → IsAtLine x old number line → Misses x setup line old.state m (inside state o)
      → IsProcess x setup accounts script memory' (value_of (Some m) old.account)
  missed_process out m number at e =
      made (Some m) old.account [] e.same.first (e.same.steps ∙ sym (append-nil old.state.recording.steps)) out
      (same_within x old.pass.view.process old.state state e.same.first e.same.steps out.is.within)
      (subst IsPackableControl (sym e.same.control) out.is.packable) e.good e.fitting
      (subst (λ (l : List (ℕ × Line)). Stands x setup state (Some m) l o) (sym (left_is out.untold e.same ∙ at.at)) e.missing)
      (still_audited out e.same)

  pub has_missed : (segno by : ℕ) → Misses x setup line old.state (record { segno = segno; by = by }) (inside state o)
      → IsUntold old.pass o → HasMissed segno by old (value_of (Some (record { segno = segno; by = by })) old.account)
  has_missed segno by e untold = record {
    same = e.same;
    kept = refl;
    none = e.missing.unknown;
    account = refl;
    untold = untold;
  }

  -- the line goes on
  pub going_process : (out : IsOut) → IsSameLine old.state state → IsPackableControl state.control
      → IsGoodProgress state.control.registers state.progress → IsFittingAt state.progress
      → (number : ℕ) → IsAtLine x old number line
      → IsAtWork x setup state line (known_of o)
      → IsProcess x setup accounts script memory' (value_of None old.account)
  going_process out same packable good fitting number at work =
      made None old.account [] same.first (same.steps ∙ sym (append-nil old.state.recording.steps)) out
      (same_within x old.pass.view.process old.state state same.first same.steps out.is.within) packable good fitting
      (subst (λ (l : List (ℕ × Line)). Stands x setup state None l o) (sym (left_is out.untold same ∙ at.at)) work)
      (still_audited out same)

  -- a link is to be snapped
  pub linking_process : (out : IsOut) (place : Place) (number : ℕ) → IsAtLine x old number line
      → Links x setup line old.state place (inside state o)
      → IsProcess x setup accounts script memory' (value_of None old.account)
  linking_process out place number at e =
      going_process out e.same e.attempting.packable e.attempting.good
      (λ fill due. absurd (e.attempting.free fill due)) number at e.attempting.work

  pub is_linking : (segno word ring number : ℕ) → IsAtLine x old number line
      → Links x setup line old.state (record { segno = segno; word = word; ring = ring }) (inside state o) → IsUntold old.pass o
      → IsAtLinkIn x segno word ring old (value_of None old.account)
  is_linking segno word ring number at e untold = record {
    same = e.same;
    settled = refl;
    number = number;
    line = line;
    at = record { left = at.left; at = left_is untold e.same ∙ at.at };
    linking = e.linking;
    account = refl;
    untold = untold;
  }

-- a process has one next line
pub one_line : (x : Outline) (v : ProcessValue) (number other : ℕ) (line line' : Line) → IsAtLine x v number line
    → IsAtLine x v other line' → line ≡ line'
one_line x v number other line line' a b =
    ap (λ (l : ℕ × Line). l.1) (same (number, line) (other, line') a.left b.left (sym a.at ∙ b.at))
  where
    same : (l l' : ℕ × Line) (more others : List (ℕ × Line)) → l ∷ more ≡ l' ∷ others → l ≡ l'
    same l l' more others e = cc

-- the pending miss is answered again
pub missed_again : (x : Outline) (setup : List journaled.Entry) (accounts : List Account) (script : List Line) (memory : List Triple)
    (v : ProcessValue) (m : Miss) → IsProcess x setup accounts script memory v → v.missing ≡ Some m
    → HasMissed m.segno m.by v v
missed_again x setup accounts script memory v m is e = record {
  same = same_line v.state;
  kept = e;
  none = by_left (left_of x v.pass.view.process v.state)
      (subst (λ (z : Option Miss). Stands x setup v.state z (left_of x v.pass.view.process v.state) v.pass) e is.stands);
  account = refl;
  untold = record { process = refl; history = refl; told = λ n. refl; amount = refl };
}
  where
    by_left : (left : List (ℕ × Line)) → Stands x setup v.state (Some m) left v.pass
        → recalled m.segno v.pass.view.memory ≡ None
    by_left [] s = absurd s
    by_left (line ∷ left) s = s.unknown

-- An attempt begins at a line of a process.
module _ (x : Outline) (setup : List journaled.Entry) (accounts : List Account) (script : List Line) (memory : List Triple)
    (v w : ProcessValue) (line : Line) (same : v ≡ w) (is : IsProcess x setup accounts script memory v)
    (at : (number : ℕ) × IsAtLine x w number line) where
  pub at_line : (number : ℕ) × IsAtLine x v number line
  at_line = subst (λ (z : ProcessValue). (number : ℕ) × IsAtLine x z number line) (sym same) at

  pub attempt_begins : IsNoRequest line → IsFree w.state.progress → w.missing ≡ None
      → IsAttempting x setup v.state line (known_of v.pass)
  attempt_begins other free settled =
      attempting x setup accounts script memory v at_line.0 line is at_line.1 other
      (subst (λ (z : ProcessValue). IsFree z.state.progress) (sym same) free)
      (ap (λ (z : ProcessValue). z.missing) same ∙ settled)

  -- where it has ended a line is left
  pub left_behind : (state : LineState) (o : PassValue journaled.Entry) → IsNoRequest line → Ends x setup v.state (inside state o)
      → length state.recording.steps < length script
  left_behind state o other e =
      line_behind x setup accounts script memory v state at_line.0 line
      (number_in v.state, v.state.recording.events ++ e.more, e.ends) is at_line.1 (other Logout) e.steps

  pub numbers_behind : (state : LineState) → state.first ≡ v.state.first → state.first + length script < 2 ^ 32
  numbers_behind state first =
      subst (λ n. n + length script < 2 ^ 32) (sym first) (script_fits x setup accounts script memory v is)

  -- and its auditor has room for a denial
  pub has_room : (account : Account) → v.account ≡ Some account → 1 ≤ account.room
  has_room account e =
      audit_room x v.pass.view.process (slice_get accounts (v.pass.view.process - 1)) v.state v.account
      (fewer_done x v at_line.0 line is.some is.planned at_line.1) is.audited account e

-- the link that is to be snapped
pub link_told : (P : ℕ → ℕ → ℕ → Type 0) (segno segno' word word' ring ring' : ℕ)
    → fast.Link segno word ring ≡ fast.Link segno' word' ring' → P segno word ring → P segno' word' ring'
link_told P segno segno' word word' ring ring' e p = subst on e p
  where
    on : Fast → Type 0
    on (fast.Link s w r) = P s w r
    on fast.Done = Unit {0}
    on (fast.Missing s by) = Unit {0}
    on fast.Journal = Unit {0}

module _ (x : Outline) (setup : List journaled.Entry) (accounts : List Account) (script : List Line) (memory memory' : List Triple)
    (old : ProcessValue) (state : LineState) (o : PassValue journaled.Entry) (line : Line) (w : ProcessValue) (view : old ≡ w) where
  pub is_linked : (segno word ring : ℕ) → (number : ℕ) × IsAtLine x w number line → w.missing ≡ None
      → Links x setup line old.state (record { segno = segno; word = word; ring = ring }) (inside state o) → IsUntold old.pass o
      → IsAtLinkIn x segno word ring w (record { state = state; missing = old.missing; pass = o; account = old.account })
  is_linked segno word ring at settled e untold =
      let there = subst (λ (z : ProcessValue). (number : ℕ) × IsAtLine x z number line) (sym view) at in
      subst (λ (z : ProcessValue). IsAtLinkIn x segno word ring z (record { state = state; missing = old.missing; pass = o; account = old.account })) view
      (subst (λ (m : Option Miss). IsAtLinkIn x segno word ring old (record { state = state; missing = m; pass = o; account = old.account }))
      (sym (ap (λ (z : ProcessValue). z.missing) view ∙ settled))
      (is_linking x setup accounts script memory memory' old state o line segno word ring there.0 there.1 e untold))
