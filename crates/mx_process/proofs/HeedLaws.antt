-- A process whose auditor was told of a denial: it goes on, or its last line is next.
use Rattle.std.proofs.Common.{◌≡◌, ◌↔◌, inr, ℕ, zero, suc, ◌+◌, ◌-◌, ◌<◌, ◌≤◌, List, [], ◌∷◌, ◌++◌, drop, take, length, Option, Some, None, refl, sym, ◌∙◌, ap, subst, arith}
use Rattle.std.specs.List.{slice_get}
use Rattle.std.specs.Option.{IsSome}
use Rattle.mx_audit.specs.Accounts.{Account, with_told}
use Rattle.mx_audit.specs.declared.auditors.Verdict.{Verdict}
use Rattle.mx_audit.specs.declared.auditors.Verdict.TheVariants.{GoOn, Logout}
use Rattle.mx_core.specs.declared.words.Triple.{Triple}
use Rattle.mx_desc.specs.Passes.{PassValue}
use Rattle.mx_line.proofs.SeatLaws.{left_more}
use Rattle.mx_line.specs.AtWork.{IsCome}
use Rattle.mx_line.specs.declared.operands.Progress.{Progress}
use Rattle.mx_line.specs.declared.operands.Progress.TheVariants.{Before}
use Rattle.mx_line.specs.declared.processes.Process.{Process as LineState}
use Rattle.mx_script.specs.Sessions.{Outline}
use Rattle.mx_script.specs.declared.lines.Line.{Line}
use Rattle.mx_sdw.specs.declared.denials.Denial.{Denial}
use Rattle.mx_state.specs.declared.journal.Entry as journaled
use Rattle.mx_ties.proofs.WorkingLaws.{cut_law}
use Rattle.mx_ties.specs.AtWork.{AtWork, cut_to}
use Rattle.mx_ties.specs.Closed.{followed}
use Rattle.mx_ties.specs.Working.{IsWorking}
use Rattle.mx_transcript.specs.Courses.{Course, Attempt}
use Rattle.mx_transcript.specs.Denials.{denial_of, denials, last_denial}
use Rattle.mx_transcript.specs.Lines.{IsSoFar}
use Rattle.mx_transcript.specs.Parts.{last_line}
use Rattle.mx_transcript.specs.Scripts.{lines_of}
use Rattle.mx_transcript.specs.Standing.{own_setting}
use Rattle.mx_transcript.specs.Transcripts.{Step}
use Rattle.mx_transcript.specs.declared.transcripts.Event2.{Event2}
use Rattle.mx_process.proofs.AuditLaws.{audited_none, audited_told, still_attended, was_uncut}
use Rattle.mx_process.proofs.PlaceLaws.{has_last, line_there, number_at}
use Rattle.mx_process.proofs.PlanLaws.{none_left_out, place_on, uncut_place, uncut_plan}
use Rattle.mx_process.proofs.ProcessLaws.{script_count}
use Rattle.mx_process.proofs.WorkLaws.{unfilled}
use Rattle.mx_process.specs.Audited.{IsAudited, IsTold, as_list}
use Rattle.mx_process.specs.Heeding.{HasHeeded, Heeds, before_last, cut_by}
use Rattle.mx_process.specs.Plans.{IsCutBehind, IsUncut, MayBeCut, left_of, left_out, number_in, place_in, plan_of}
use Rattle.mx_process.specs.Processes.{Known, ProcessValue, IsAtWork, IsBefore, IsProcess, at_work, known_of, script_of}

-- a line of which no event is recorded has not begun
pub work_begun : (x : Outline) (setup : List journaled.Entry) (p : ℕ) (state : LineState) (line : Line) (course : Course) (k : Known)
    → state.recording.events ≡ [] → IsWorking x setup p (at_work x p state line course) k.view k.told
    → IsWorking x setup p (at_work x p state line (Attempt [])) k.view k.told
work_begun x setup p state line course k idle w = record {
  lines = λ u d agrees. record {
    done = (w.lines u d agrees).done;
    at_work = subst (λ (events : List Event2). IsSoFar (own_setting x (followed setup k.view.history) k.view.floor p d)
        state.control line events (Attempt []))
        (sym idle) refl;
  };
  answering = λ u. tt;
  tied = w.tied;
  full = w.full;
}

-- Its last line begins in place of the next one.
module _ (x : Outline) (setup : List journaled.Entry) (state : LineState) (k : Known) (some : 1 ≤ k.process)
    (uncut : IsUncut x k.process state) (more : ℕ)
    (is : more ≡ length (lines_of x k.process) - 1 - length state.recording.steps)
    (within : length state.recording.steps < length (lines_of x k.process)) where
  abbrev pub cut : LineState
  cut = cut_by more state

  place_last : place_in x k.process cut ≡ length (lines_of x k.process) - 1
  place_last = omega (arith, uncut, is, within)

  plan_last : plan_of x k.process cut ≡ take (length state.recording.steps) (lines_of x k.process) ++ last_line (lines_of x k.process)
  plan_last =
      let count : length (lines_of x k.process) - suc (left_out x k.process cut) ≡ length state.recording.steps
      = omega (arith, uncut, is, within) in
      ap (λ n. take n (lines_of x k.process) ++ last_line (lines_of x k.process)) count

  module _ (last : ℕ × Line) (at : last_line (lines_of x k.process) ≡ last ∷ []) where
    left_last : left_of x k.process cut ≡ last ∷ []
    left_last = ap (λ n. drop n (lines_of x k.process)) place_last ∙ at

    number_last : last.0 ≡ number_in cut
    number_last =
        let number = number_at x k.process (length (lines_of x k.process) - 1) some last.0 last.1 [] at in
        omega (arith, number, uncut, is, within)

    none_behind : [] ≡ drop (suc (place_in x k.process cut)) (lines_of x k.process)
    none_behind = sym (left_more (place_in x k.process cut) (lines_of x k.process) last [] left_last)

    last_begins : (line : Line) → state.progress ≡ Before → state.recording.events ≡ [] → IsAtWork x setup state line k
        → IsAtWork x setup cut last.1 k
    last_begins line fresh idle w =
        let begun = work_begun x setup k.process state line w.course k idle w.working in
        let same : cut_to (at_work x k.process state line (Attempt []))
        (take (length state.recording.steps) (lines_of x k.process) ++ last_line (lines_of x k.process)) last.0 last.1
        ≡ at_work x k.process cut last.1 (Attempt [])
        = λ i. record {
          ran = sym plan_last i;
          steps = state.recording.steps;
          number = number_last i;
          line = last.1;
          left = none_behind i;
          now = state.control;
          events = state.recording.events;
          course = Attempt [];
        } in
        record {
          course = Attempt [];
          working = subst (λ (v : AtWork). IsWorking x setup k.process v k.view k.told) same
              (cut_law x setup k.process (at_work x k.process state line (Attempt [])) last.0 last.1 k.view k.told
              (uncut_plan x k.process state uncut) idle refl at begun);
          come = subst (λ (r : Progress). IsCome state.control last.1 (Attempt []) r) (sym fresh) (refl, tt);
          filled = unfilled state.progress last.1 fresh;
        }

  pub last_is_next : state.progress ≡ Before → state.recording.events ≡ [] → IsBefore x setup state (left_of x k.process state) k
      → IsBefore x setup cut (left_of x k.process cut) k
  last_is_next fresh idle before =
      let some_lines : 1 ≤ length (lines_of x k.process) = omega (arith, within) in
      let last = has_last (lines_of x k.process) some_lines in
      let place = uncut_place x k.process state uncut in
      let there = line_there (place_in x k.process state) (lines_of x k.process) (omega (arith, place, within)) in
      subst (λ (l : List (ℕ × Line)). IsBefore x setup cut l k) (sym (left_last last.0 last.1))
      (last_begins last.0 last.1 there.0.1 fresh idle
      (subst (λ (l : List (ℕ × Line)). IsBefore x setup state l k) there.2 before))

-- where the line that ended last was denied
last_at : (steps : List Step) (told : ℕ × Denial) → last_denial steps ≡ Some told
    → (place : ℕ) × (step : Step) × (slice_get steps place ≡ Some step) × (denial_of step ≡ Some told) × (suc place ≡ length steps)
last_at [] told e = absurd (cc)
last_at (step ∷ []) told e = (zero, step, refl, e, refl)
last_at (step ∷ next ∷ steps) told e =
    let rest = last_at (next ∷ steps) told e in (suc rest.0, rest.1, rest.2, rest.3, ap suc rest.4)

-- all lines behind it and before the last are left out
pub cut_behind : (x : Outline) (p : ℕ) (state : LineState) (told : ℕ × Denial) (more : ℕ)
    → last_denial state.recording.steps ≡ Some told
    → IsUncut x p state → more ≡ length (lines_of x p) - 1 - length state.recording.steps
    → length state.recording.steps < length (lines_of x p) → IsCutBehind x p (cut_by more state) told
cut_behind x p state told more last uncut is within =
    let found = last_at state.recording.steps told last in
    let count = found.4 in
    record {
      place = found.0;
      step = found.1;
      at = found.2;
      denied = found.3;
      more = omega (arith, count, within);
      left_out = omega (arith, count, within, uncut, is);
    }

-- A line has ended, and the auditor was not told yet.
module _ (x : Outline) (setup : List journaled.Entry) (accounts : List Account) (script : List Line) (memory : List Triple)
    (state : LineState) (o : PassValue journaled.Entry) where
  abbrev pub with_account : LineState → Option Account → ProcessValue
  with_account s account = record { state = s; missing = None; pass = o; account = account }

  module _ (is : IsProcess x setup accounts script memory (with_account state None)) where
    pub with_audit : (account : Option Account)
        → IsAudited x o.view.process (slice_get accounts (o.view.process - 1)) state account
        → IsProcess x setup accounts script memory (with_account state account)
    with_audit account audited = record {
      session = is.session;
      some = is.some;
      own = is.own;
      same = is.same;
      outside = is.outside;
      planned = is.planned;
      within = is.within;
      packable = is.packable;
      good = is.good;
      fitting = is.fitting;
      stands = is.stands;
      alone = is.alone;
      audited = audited;
    }

    -- its part is cut
    module _ (fresh : state.progress ≡ Before) (idle : state.recording.events ≡ []) (uncut : IsUncut x o.view.process state)
        (within : length state.recording.steps < length script) where
      count : length script ≡ length (lines_of x o.view.process)
      count =
          let all = script_count x setup accounts script memory (with_account state None) is in
          let none = none_left_out x o.view.process state uncut in
          omega (arith, all, none)

      abbrev pub left : ℕ
      left = before_last state script

      left_is : left ≡ length (lines_of x o.view.process) - 1 - length state.recording.steps
      left_is = ap (λ n. n - 1 - length state.recording.steps) count

      fewer : length state.recording.steps < length (lines_of x o.view.process)
      fewer = subst (λ n. length state.recording.steps < n) count within

      pub logged_out : (told : ℕ × Denial) (account : Account) → last_denial state.recording.steps ≡ Some told
          → IsTold x o.view.process (slice_get accounts (o.view.process - 1)) (cut_by left state) account
          → IsProcess x setup accounts (drop left script) memory (with_account (cut_by left state) (Some account))
      logged_out told account last audited = record {
        session = is.session;
        some = is.some;
        own = rest_of_script;
        same = is.same;
        outside = is.outside;
        planned = inr (told, cut_behind x o.view.process state told left last uncut left_is fewer);
        within = within_last;
        packable = is.packable;
        good = is.good;
        fitting = is.fitting;
        stands = last_is_next x setup state (known_of o) is.some uncut left left_is fewer fresh idle is.stands;
        alone = λ none. absurd (apart (sym none ∙ audited.had));
        audited = audited;
      }
        where
          apart : None ≡ Some audited.opening → ⊥
          apart e = cc

          skipped : left_out x o.view.process (cut_by left state) ≡ left
          skipped = omega (arith, uncut)

          rest_of_script : drop left script ≡ drop (left_out x o.view.process (cut_by left state)) (script_of x o.view.process)
          rest_of_script =
              ap (drop left) (is.own ∙ ap (λ n. drop n (script_of x o.view.process)) (none_left_out x o.view.process state uncut))
              ∙ ap (λ n. drop n (script_of x o.view.process)) (sym skipped)

          within_last : place_in x o.view.process (cut_by left state) ≤ length (lines_of x o.view.process)
          within_last = let is = left_is in let less = fewer in omega (arith, uncut, is, less)

    -- The lines that ended since the auditor was told last. At most one of them was denied, and it is the last of them.
    module _ (fresh : state.progress ≡ Before) (idle : state.recording.events ≡ []) (old : LineState) (more : List Step)
        (first : state.first ≡ old.first) (steps : state.recording.steps ≡ old.recording.steps ++ more) where
      before_told : (number : ℕ) (denial : Denial) → denials more ≡ (number, denial) ∷ [] → length state.recording.steps < length script
          → suc (place_in x o.view.process old) < length (lines_of x o.view.process)
      before_told number denial denied within =
          let all = script_count x setup accounts script memory (with_account state None) is in
          let on = place_on x o.view.process old state first more steps in
          let some = some_more more denied in
          omega (arith, all, on, some, within)
        where
          some_more : (l : List Step) → denials l ≡ (number, denial) ∷ [] → 1 ≤ length l
          some_more [] e = absurd (cc)
          some_more (step ∷ l) e = omega arith

      by_verdict : (number : ℕ) (denial : Denial) (a : Account) (verdict : Verdict) (state' : LineState) (script' : List Line)
          → IsTold x o.view.process (slice_get accounts (o.view.process - 1)) old a
          → denials more ≡ (number, denial) ∷ [] → last_denial state.recording.steps ≡ Some (number, denial)
          → length state.recording.steps < length script → Heeds verdict state script state' script'
          → IsProcess x setup accounts script' memory (with_account state' (Some (with_told a ((number, denial, verdict) ∷ []))))
      by_verdict number denial a GoOn state' script' told denied last within heeds =
          let before = before_told number denial denied within in
          let uncut = was_uncut x o.view.process (slice_get accounts (o.view.process - 1)) old state more first steps number denial
          denied before a told in
          subst (λ (l : List Line). IsProcess x setup accounts l memory
          (with_account state' (Some (with_told a ((number, denial, GoOn) ∷ [])))))
          (sym heeds.1)
          (subst (λ (s : LineState). IsProcess x setup accounts script memory
          (with_account s (Some (with_told a ((number, denial, GoOn) ∷ [])))))
          (sym heeds.0) (with_audit (Some (with_told a ((number, denial, GoOn) ∷ [])))
          (audited_told x o.view.process (slice_get accounts (o.view.process - 1)) old state more first steps number denial
          denied before state a GoOn refl told uncut)))
      by_verdict number denial a Logout state' script' told denied last within heeds =
          let before = before_told number denial denied within in
          let uncut = was_uncut x o.view.process (slice_get accounts (o.view.process - 1)) old state more first steps number denial
          denied before a told in
          let is_left = left_is fresh idle uncut within in
          let less = fewer fresh idle uncut within in
          subst (λ (l : List Line). IsProcess x setup accounts l memory
          (with_account state' (Some (with_told a ((number, denial, Logout) ∷ [])))))
          (sym heeds.1) (subst (λ (s : LineState). IsProcess x setup accounts (drop (before_last state script) script) memory
          (with_account s (Some (with_told a ((number, denial, Logout) ∷ [])))))
          (sym heeds.0) (logged_out fresh idle uncut within (number, denial) (with_told a ((number, denial, Logout) ∷ [])) last
          (audited_told x o.view.process (slice_get accounts (o.view.process - 1)) old state more first steps number denial
          denied before (cut_by (before_last state script) state) a Logout refl told
          (cut_behind x o.view.process state (number, denial) (before_last state script) last uncut is_left less))))

      goes_on : (account account' : Option Account) (verdict : Verdict) (state' : LineState) (script' : List Line) → verdict ≡ GoOn
          → account' ≡ account → Heeds verdict state script state' script'
          → IsAudited x o.view.process (slice_get accounts (o.view.process - 1)) state account
          → IsProcess x setup accounts script' memory (with_account state' account')
      goes_on account account' verdict state' script' going same heeds now =
          let stays = subst (λ (v : Verdict). Heeds v state script state' script') going heeds in
          subst (λ (l : List Line). IsProcess x setup accounts l memory (with_account state' account')) (sym stays.1)
          (subst (λ (s : LineState). IsProcess x setup accounts script memory (with_account s account')) (sym stays.0)
          (subst (λ (a : Option Account). IsProcess x setup accounts script memory (with_account state a)) (sym same)
          (with_audit account now)))

      -- now it was
      pub heeded_process : (told : Option (ℕ × Denial)) (account account' : Option Account) (state' : LineState) (script' : List Line)
          → IsAudited x o.view.process (slice_get accounts (o.view.process - 1)) old account → denials more ≡ as_list told
          → last_denial state.recording.steps ≡ told → length state.recording.steps < length script
          → HasHeeded told account state script account' state' script'
          → IsProcess x setup accounts script' memory (with_account state' account')
      heeded_process None account account' state' script' audited denied last within h =
          goes_on account account' h.verdict state' script' h.answered.0 h.answered.1 h.heeds
          (audited_none x o.view.process (slice_get accounts (o.view.process - 1)) old state more first steps account denied audited)
      heeded_process (Some told) None account' state' script' audited denied last within h =
          goes_on None account' h.verdict state' script' h.answered.0 h.answered.1 h.heeds tt
      heeded_process (Some told) (Some a) account' state' script' audited denied last within h =
          subst (λ (z : Option Account). IsProcess x setup accounts script' memory (with_account state' z)) (sym h.answered)
          (by_verdict told.0 told.1 a h.verdict state' script' audited denied last within h.heeds)

-- no fewer lines are left out, and nothing else differs
pub heeded_cut : (told : Option (ℕ × Denial)) (account account' : Option Account) (state state' : LineState)
    (script script' : List Line)
    → HasHeeded told account state script account' state' script' → MayBeCut state state'
heeded_cut told account account' state state' script script' h = by_verdict h.verdict h.heeds
  where
    by_verdict : (verdict : Verdict) → Heeds verdict state script state' script' → MayBeCut state state'
    by_verdict GoOn heeds = record { more = 0; is = heeds.0 ∙ none }
      where
        none : state ≡ cut_by 0 state
        none =
            let first : state.first ≡ state.first + 0 = omega arith in
            λ i. record { first = first i; control = state.control; recording = state.recording; progress = state.progress }
    by_verdict Logout heeds = record { more = before_last state script; is = heeds.0 }

pub heeded_attended : (told : Option (ℕ × Denial)) (account account' : Option Account) (state state' : LineState)
    (script script' : List Line) → HasHeeded told account state script account' state' script' → IsSome account ↔ IsSome account'
heeded_attended told account account' state state' script script' h = still_attended told account account' h.verdict h.answered
