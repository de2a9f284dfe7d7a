-- The auditor of one process, as lines end.
use Rattle.std.proofs.Common.{◌≡◌, ◌↔◌, ℕ, suc, ◌<◌, ◌≤◌, ◌-◌, List, [], ◌∷◌, ◌++◌, length, append-nil, Option, Some, None, refl, sym, ◌∙◌, ap, subst, arith}
use Rattle.std.proofs.lemmas.List.{length-map, map-append}
use Rattle.std.specs.List.{slice_get}
use Rattle.std.specs.Option.{IsSome}
use Rattle.mx_audit.proofs.AccountLaws.{with_both, with_none}
use Rattle.mx_audit.specs.Accounts.{Account, Told, with_told}
use Rattle.mx_audit.specs.Verdicts.{GoOnToLast, denial_in, last_told}
use Rattle.mx_audit.specs.declared.auditors.Verdict.{Verdict}
use Rattle.mx_audit.specs.declared.auditors.Verdict.TheVariants.{GoOn, Logout}
use Rattle.mx_line.specs.declared.processes.Process.{Process as LineState}
use Rattle.mx_script.specs.Sessions.{Outline}
use Rattle.mx_sdw.specs.declared.denials.Denial.{Denial}
use Rattle.mx_transcript.proofs.DenialLaws.{denials_append, few_denials}
use Rattle.mx_transcript.specs.Denials.{denial_of, denials, denied_with}
use Rattle.mx_transcript.specs.Scripts.{lines_of}
use Rattle.mx_transcript.specs.Transcripts.{Step}
use Rattle.mx_transcript.specs.declared.transcripts.Event2.{Event2}
use Rattle.mx_transcript.specs.declared.transcripts.Result2.{Result2}
use Rattle.mx_transcript.specs.declared.transcripts.Result2.TheVariants as result
use Rattle.mx_process.proofs.PlanLaws.{cut_on, never_cut, uncut_on}
use Rattle.mx_process.specs.Audited.{IsAudited, IsHeeded, IsHeededLast, IsTold, as_list}
use Rattle.mx_process.specs.Heeding.{HasTold}
use Rattle.mx_process.specs.Plans.{IsUncut, place_in}

pub one_denial : (step : Step) → denials (step ∷ []) ≡ as_list (denial_of step)
one_denial step = by_denial (denial_of step) refl
  where
    by_denial : (told : Option (ℕ × Denial)) → denial_of step ≡ told → denials (step ∷ []) ≡ as_list (denial_of step)
    by_denial None e = rw e refl
    by_denial (Some told) e = rw e refl

-- it has room for the denial of a line that is left
pub audit_room : (x : Outline) (p : ℕ) (before : Option Account) (state : LineState) (account : Option Account)
    → length state.recording.steps < length (lines_of x p) → IsAudited x p before state account
    → (a : Account) → account ≡ Some a → 1 ≤ a.room
audit_room x p before state None fewer is a e = absurd (cc)
audit_room x p before state (Some account) fewer is a e =
    let same : account ≡ a = cc in
    let few = few_denials state.recording.steps in
    let room : account.room ≡ is.opening.room - length is.told = ap (λ (b : Account). b.room) is.grown in
    let count : length is.told ≡ length (denials state.recording.steps)
    = sym (length-map is.told denial_in) ∙ ap (λ (l : List (ℕ × Denial)). length l) is.each in
    let most = is.room in
    subst (λ (b : Account). 1 ≤ b.room) same (omega (arith, few, room, count, most, fewer))

last_more : (told : List Told) (one : Told) → last_told (told ++ one ∷ []) ≡ Some one
last_more [] one = refl
last_more (first ∷ []) one = refl
last_more (first ∷ next ∷ told) one = last_more (next ∷ told) one

going_more : (told : List Told) (one : Told) → GoOnToLast told → ((last : Told) → last_told told ≡ Some last → last.2 ≡ GoOn)
    → GoOnToLast (told ++ one ∷ [])
going_more [] one going last = tt
going_more (first ∷ []) one going last = (last first refl, tt)
going_more (first ∷ next ∷ told) one going last = (going.0, going_more (next ∷ told) one going.1 last)

-- some lines more
module _ (x : Outline) (p : ℕ) (before : Option Account) (old ended : LineState) (more : List Step)
    (first : ended.first ≡ old.first) (steps : ended.recording.steps ≡ old.recording.steps ++ more) where
  heeded_on : (last : Option Told) → IsHeededLast x p old last → IsHeededLast x p ended last
  heeded_on None is = uncut_on x p old ended first is
  heeded_on (Some last) is = by_verdict last.2 is
    where
      by_verdict : (verdict : Verdict) → IsHeeded x p old (denial_in last) verdict → IsHeeded x p ended (denial_in last) verdict
      by_verdict GoOn is = uncut_on x p old ended first is
      by_verdict Logout is = cut_on x p old ended first more steps (denial_in last) is

  -- of which none was denied
  pub audited_none : (account : Option Account) → denials more ≡ [] → IsAudited x p before old account
      → IsAudited x p before ended account
  audited_none None none is = tt
  audited_none (Some account) none is = record {
    opening = is.opening;
    had = is.had;
    room = is.room;
    told = is.told;
    grown = is.grown;
    each = is.each ∙ sym (ap denials steps ∙ denials_append old.recording.steps more
        ∙ ap (λ (l : List (ℕ × Denial)). denials old.recording.steps ++ l) none ∙ append-nil (denials old.recording.steps));
    going = is.going;
    heeded = heeded_on (last_told is.told) is.heeded;
  }

  -- Of which one was denied, that is not the last of the script: the auditor was told.
  module _ (number : ℕ) (denial : Denial) (denied : denials more ≡ (number, denial) ∷ [])
      (within : suc (place_in x p old) < length (lines_of x p)) where
    goes : (last : Told) → IsHeeded x p old (denial_in last) last.2 → last.2 ≡ GoOn
    goes last is = by_verdict last.2 is
      where
        by_verdict : (verdict : Verdict) → IsHeeded x p old (denial_in last) verdict → verdict ≡ GoOn
        by_verdict GoOn is = refl
        by_verdict Logout is = absurd (never_cut x p old (denial_in last) is within)

    last_goes : (told : Option Told) → IsHeededLast x p old told → (last : Told) → told ≡ Some last → last.2 ≡ GoOn
    last_goes None is last e = absurd (cc)
    last_goes (Some one) is last e =
        let same : one ≡ last = cc in subst (λ (l : Told). l.2 ≡ GoOn) same (goes one is)

    -- nothing was left out so far
    pub was_uncut : (account : Account) → IsTold x p before old account → IsUncut x p ended
    was_uncut account is = by_last (last_told is.told) is.heeded
      where
        by_verdict : (last : Told) (verdict : Verdict) → IsHeeded x p old (denial_in last) verdict → IsUncut x p old
        by_verdict last GoOn is = is
        by_verdict last Logout is = absurd (never_cut x p old (denial_in last) is within)

        by_last : (last : Option Told) → IsHeededLast x p old last → IsUncut x p ended
        by_last None is = uncut_on x p old ended first is
        by_last (Some last) is = uncut_on x p old ended first (by_verdict last last.2 is)

    pub audited_told : (new : LineState) (account : Account) (verdict : Verdict) → new.recording.steps ≡ ended.recording.steps
        → IsTold x p before old account → IsHeeded x p new (number, denial) verdict
        → IsTold x p before new (with_told account ((number, denial, verdict) ∷ []))
    audited_told new account verdict same is heeded = record {
      opening = is.opening;
      had = is.had;
      room = is.room;
      told = is.told ++ one ∷ [];
      grown = ap (λ (a : Account). with_told a (one ∷ [])) is.grown ∙ with_both is.opening is.told (one ∷ []);
      each = map-append denial_in is.told (one ∷ [])
          ∙ ap (λ (l : List (ℕ × Denial)). l ++ (number, denial) ∷ []) is.each
          ∙ sym (ap denials (same ∙ steps) ∙ denials_append old.recording.steps more
          ∙ ap (λ (l : List (ℕ × Denial)). denials old.recording.steps ++ l) denied);
      going = going_more is.told one is.going (last_goes (last_told is.told) is.heeded);
      heeded = subst (IsHeededLast x p new) (sym (last_more is.told one)) heeded;
    }
      where
        one : Told
        one = (number, denial, verdict)

-- the same lines are done, of the same process
pub audited_same : (x : Outline) (p q : ℕ) (accounts : List Account) (old new : LineState) (account account' : Option Account)
    → new.first ≡ old.first → new.recording.steps ≡ old.recording.steps → p ≡ q → account' ≡ account
    → IsAudited x p (slice_get accounts (p - 1)) old account → IsAudited x q (slice_get accounts (q - 1)) new account'
audited_same x p q accounts old new account account' first steps own same is =
    subst (IsAudited x q (slice_get accounts (q - 1)) new) (sym same)
    (subst (λ r. IsAudited x r (slice_get accounts (r - 1)) new account) own
    (audited_none x p (slice_get accounts (p - 1)) old new [] first (steps ∙ sym (append-nil old.recording.steps)) account refl is))

-- before any line
pub audited_first : (x : Outline) (p : ℕ) (before : Option Account) (state : LineState) (account : Account) → before ≡ Some account
    → length (lines_of x p) ≤ account.room → state.recording.steps ≡ [] → IsUncut x p state
    → IsAudited x p before state (Some account)
audited_first x p before state account had room none uncut = record {
  opening = account;
  had = had;
  room = room;
  told = [];
  grown = sym (with_none account);
  each = sym (ap denials none);
  going = tt;
  heeded = uncut;
}

-- who is told has an auditor still
pub still_attended : (told : Option (ℕ × Denial)) (account account' : Option Account) (verdict : Verdict)
    → HasTold told account verdict account' → IsSome account ↔ IsSome account'
still_attended None account account' verdict is =
    subst (λ (a : Option Account). IsSome account ↔ IsSome a) (sym is.1) (λ some. some, λ some. some)
still_attended (Some told) None account' verdict is =
    subst (λ (a : Option Account). IsSome {T = Account} None ↔ IsSome a) (sym is.1) (λ some. some, λ some. some)
still_attended (Some told) (Some account) account' verdict is =
    subst (λ (a : Option Account). IsSome (Some account) ↔ IsSome a) (sym is) (λ some. refl, λ some. refl)

-- a line that was not denied
undenied_none : (number : ℕ) (ends : Result2) → ((denial : Denial) → ends ≡ result.Denied denial → ⊥) → denied_with number ends ≡ None
undenied_none number result.Done never = refl
undenied_none number (result.A value) never = refl
undenied_none number (result.Pr n pointer) never = refl
undenied_none number (result.Moved ring procedure) never = refl
undenied_none number (result.Denied denial) never = absurd (never denial refl)
undenied_none number result.Refused never = refl
undenied_none number result.HistoryFull never = refl

pub undenied_one : (number : ℕ) (events : List Event2) (ends : Result2) → ((denial : Denial) → ends ≡ result.Denied denial → ⊥)
    → denials ((number, events, ends) ∷ []) ≡ []
undenied_one number events ends never = one_denial (number, events, ends) ∙ ap as_list (undenied_none number ends never)
