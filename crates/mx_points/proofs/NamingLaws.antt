-- The entries of a process in the journal, one after another, beside those that lines name.
use Rattle.std.proofs.Common.{◌≡◌, ℕ, zero, suc, ◌+◌, ◌≤◌, List, [], ◌∷◌, ◌++◌, Some, take, drop, length, refl, ap, sym, subst, ◌∙◌, arith, append_assoc, append-nil}
use Rattle.std.specs.List.{slice_get}
use Rattle.std.proofs.lemmas.List.{append_cancel_left, take_all, take-append-drop}
use Rattle.std.proofs.lemmas.Option.{slice_get_within}
use Rattle.mx_state.specs.declared.journal.Entry as journaled
use Rattle.mx_transcript.proofs.Named.{named_append}
use Rattle.mx_transcript.specs.Transcripts.{Step, entries_named, events_of, numbers_of}
use Rattle.mx_transcript.specs.declared.transcripts.Event2.{Event2}
use Rattle.mx_points.specs.Fronts.{AreNamedTo, HasNamedAll, IsBadAt}
use Rattle.mx_points.specs.Own.{HasPassed, IsNextOwn, own_from}
use Rattle.mx_points.proofs.LineLaws.{events_more}
use Rattle.mx_points.proofs.Places.{dropped_more, taken_more}

-- ---- events
pub passed_both : (p : ℕ) (journal : List journaled.Entry) (from next after : ℕ) (some more : List Event2) → HasPassed p journal from some next
    → HasPassed p journal next more after → HasPassed p journal from (some ++ more) after
passed_both p journal from next after some more first more_passed = record {
  own = first.own
      ∙ ap (λ (l : List ℕ). entries_named some ++ l) more_passed.own
      ∙ sym (append_assoc (entries_named some) (entries_named more) (own_from p journal after))
      ∙ ap (λ (l : List ℕ). l ++ own_from p journal after) (sym (named_append some more));
}

-- where what comes next is not named so, nor is all
pub stopped : (p : ℕ) (journal : List journaled.Entry) (from next : ℕ) (some more rest : List Event2) → HasPassed p journal from some next
    → ((later : List ℕ) → own_from p journal next ≡ entries_named more ++ later → ⊥)
    → (later : List ℕ) → own_from p journal from ≡ entries_named (some ++ (more ++ rest)) ++ later → ⊥
stopped p journal from next some more rest first stop later e =
    stop (entries_named rest ++ later)
    (append_cancel_left (entries_named some) (own_from p journal next) (entries_named more ++ (entries_named rest ++ later))
    (sym first.own ∙ e
    ∙ ap (λ (l : List ℕ). l ++ later) (named_append some (more ++ rest) ∙ ap (λ (l : List ℕ). entries_named some ++ l) (named_append more rest))
    ∙ append_assoc (entries_named some) (entries_named more ++ entries_named rest) later
    ∙ ap (λ (l : List ℕ). entries_named some ++ l) (append_assoc (entries_named more) (entries_named rest) later)))

-- the same at a place of the events
pub passed_one : (p : ℕ) (journal : List journaled.Entry) (from next after : ℕ) (events : List Event2) (k : ℕ) (event : Event2)
    → slice_get events k ≡ Some event → HasPassed p journal from (take k events) next → HasPassed p journal next (event ∷ []) after
    → HasPassed p journal from (take (k + 1) events) after
passed_one p journal from next after events k event at first one =
    let e : k + 1 ≡ suc k = omega arith in
    subst (λ (l : List Event2). HasPassed p journal from l after)
    (sym (ap (λ (n : ℕ). take n events) e ∙ taken_more events k event at))
    (passed_both p journal from next after (take k events) (event ∷ []) first one)

pub stopped_at : (p : ℕ) (journal : List journaled.Entry) (from next : ℕ) (events : List Event2) (k : ℕ) (event : Event2)
    → slice_get events k ≡ Some event → HasPassed p journal from (take k events) next
    → ((later : List ℕ) → own_from p journal next ≡ entries_named (event ∷ []) ++ later → ⊥)
    → (later : List ℕ) → own_from p journal from ≡ entries_named events ++ later → ⊥
stopped_at p journal from next events k event at first stop later e =
    stopped p journal from next (take k events) (event ∷ []) (drop (suc k) events) first stop later
    (e ∙ ap (λ (l : List Event2). entries_named l ++ later)
    (sym (take-append-drop k events) ∙ ap (λ (l : List Event2). take k events ++ l) (dropped_more events k event at)))

-- ---- lines
named_next : (steps : List Step) (k : ℕ) (step : Step) (events : List Event2) → slice_get steps k ≡ Some step → events ≡ step.1
    → entries_named (events_of (take (suc k) steps)) ≡ entries_named (events_of (take k steps)) ++ entries_named events
named_next steps k step events at same =
    ap entries_named (events_more steps k step at)
    ∙ named_append (events_of (take k steps)) step.1
    ∙ ap (λ (l : List Event2). entries_named (events_of (take k steps)) ++ entries_named l) (sym same)

pub named_more : (p : ℕ) (journal : List journaled.Entry) (steps : List Step) (k from next : ℕ) (step : Step) (events : List Event2)
    → slice_get steps k ≡ Some step → events ≡ step.1
    → numbers_of p journal ≡ entries_named (events_of (take k steps)) ++ own_from p journal from → HasPassed p journal from events next
    → numbers_of p journal ≡ entries_named (events_of (take (k + 1) steps)) ++ own_from p journal next
named_more p journal steps k from next step events at same e passed =
    let one : k + 1 ≡ suc k = omega arith in
    e ∙ ap (λ (l : List ℕ). entries_named (events_of (take k steps)) ++ l) passed.own
    ∙ sym (append_assoc (entries_named (events_of (take k steps))) (entries_named events) (own_from p journal next))
    ∙ ap (λ (l : List ℕ). l ++ own_from p journal next)
    (sym (named_next steps k step events at same) ∙ ap (λ (n : ℕ). entries_named (events_of (take n steps))) (sym one))

pub misnamed_here : (p : ℕ) (journal : List journaled.Entry) (steps : List Step) (k from : ℕ) (step : Step) (events : List Event2)
    → slice_get steps k ≡ Some step → events ≡ step.1
    → numbers_of p journal ≡ entries_named (events_of (take k steps)) ++ own_from p journal from
    → ((later : List ℕ) → own_from p journal from ≡ entries_named events ++ later → ⊥)
    → IsBadAt (AreNamedTo journal p steps) (length steps) k
misnamed_here p journal steps k from step events at same e stop = record {
  within = slice_get_within steps k step at;
  good = record { later = own_from p journal from; named = e };
  bad = λ more.
      stop more.later
      (append_cancel_left (entries_named (events_of (take k steps))) (own_from p journal from) (entries_named events ++ more.later)
      (sym e ∙ more.named
      ∙ ap (λ (l : List ℕ). l ++ more.later) (named_next steps k step events at same)
      ∙ append_assoc (entries_named (events_of (take k steps))) (entries_named events) more.later));
}

module _ (p : ℕ) (journal : List journaled.Entry) (steps : List Step) (k from : ℕ) (end : length steps ≤ k)
    (named : numbers_of p journal ≡ entries_named (events_of (take k steps)) ++ own_from p journal from) where
  in_all : numbers_of p journal ≡ entries_named (events_of steps) ++ own_from p journal from
  in_all = named ∙ ap (λ (l : List Step). entries_named (events_of l) ++ own_from p journal from) (take_all k steps end)

  pub all_named : own_from p journal from ≡ [] → HasNamedAll journal p steps
  all_named none =
      sym (in_all ∙ ap (λ (l : List ℕ). entries_named (events_of steps) ++ l) none ∙ append-nil (entries_named (events_of steps)))

  pub named_short : (own : ℕ) → IsNextOwn p journal from own → AreNamedTo journal p steps (length steps) × (HasNamedAll journal p steps → ⊥)
  named_short own next = (
    record {
      later = own_from p journal from;
      named = in_all
          ∙ ap (λ (l : List Step). entries_named (events_of l) ++ own_from p journal from) (sym (take_all (length steps) steps (omega arith)));
    },
    λ all.
        let none : [] ≡ own_from p journal from =
        append_cancel_left (entries_named (events_of steps)) [] (own_from p journal from)
        (append-nil (entries_named (events_of steps)) ∙ all ∙ in_all) in
        let some : own_from p journal from ≡ own ∷ own_from p journal own = next.own in
        absurd cc,
  )

-- where all are named, those that are named are the first
pub named_to_all : (journal : List journaled.Entry) (p : ℕ) (steps : List Step) → HasNamedAll journal p steps
    → AreNamedTo journal p steps (length steps)
named_to_all journal p steps all =
    let same : take (length steps) steps ≡ steps = take_all (length steps) steps (omega arith) in record {
      later = [];
      named = sym all ∙ sym (append-nil (entries_named (events_of steps)))
          ∙ ap (λ (l : List Step). entries_named (events_of l) ++ []) (sym same);
    }

-- fewer lines
pub fewer_named : (journal : List journaled.Entry) (p : ℕ) (steps : List Step) (m n : ℕ) → m ≤ n
    → AreNamedTo journal p steps n → AreNamedTo journal p steps m
fewer_named journal p steps m n h all =
    let split = rest_of steps m n h in record {
      later = entries_named split.0 ++ all.later;
      named = all.named
          ∙ ap (λ (l : List Event2). entries_named l ++ all.later) split.1
          ∙ ap (λ (l : List ℕ). l ++ all.later) (named_append (events_of (take m steps)) split.0)
          ∙ append_assoc (entries_named (events_of (take m steps))) (entries_named split.0) all.later;
    }
  where
    rest_of : (steps : List Step) (m n : ℕ) → m ≤ n
        → (rest : List Event2) × (events_of (take n steps) ≡ events_of (take m steps) ++ rest)
    rest_of steps zero n h = (events_of (take n steps), refl)
    rest_of [] (suc m) zero h = ([], refl)
    rest_of [] (suc m) (suc n) h = ([], refl)
    rest_of (step ∷ steps) (suc m) zero h = absurd (omega arith)
    rest_of (step ∷ steps) (suc m) (suc n) h =
        let more = rest_of steps m n (omega arith) in
        (more.0, ap (λ (l : List Event2). step.1 ++ l) more.1 ∙ sym (append_assoc step.1 (events_of (take m steps)) more.0))
