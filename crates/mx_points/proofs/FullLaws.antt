-- Lines after one that found the journal full.
use Rattle.std.proofs.Common.{◌≡◌, ◌↔◌, ℕ, suc, ◌+◌, ◌<◌, ◌≤◌, List, [], Some, inl, inr, take, length, ap, sym, subst, ◌∙◌, arith}
use Rattle.std.specs.List.{slice_get}
use Rattle.std.proofs.lemmas.Bool.{cases_lt}
use Rattle.std.proofs.lemmas.List.{take_all}
use Rattle.std.proofs.lemmas.Option.{slice_get_within}
use Rattle.mx_transcript.specs.FullJournal.{HasNoneAfterFull}
use Rattle.mx_transcript.specs.Transcripts.{Step, entries_named}
use Rattle.mx_transcript.specs.declared.transcripts.Result2.TheVariants.{HistoryFull}
use Rattle.mx_points.specs.Fronts.{HasNoneAfterFullTo, IsBadAt}
use Rattle.mx_points.proofs.Places.{get_taken, taken_below}

-- a line below this place found the journal full
pub record HasFull (steps : List Step) (place : ℕ) : Type 0 where
  pub at : ℕ
  pub step : Step
  pub below : at < place
  pub there : slice_get steps at ≡ Some step
  pub full : step.2 ≡ HistoryFull

pub one_full_more : (steps : List Step) (place : ℕ) (step : Step) → slice_get steps place ≡ Some step → step.2 ≡ HistoryFull
    → HasFull steps (place + 1)
one_full_more steps place step at full = record { at = place; step = step; below = omega arith; there = at; full = full }

pub still_full : (steps : List Step) (place : ℕ) → HasFull steps place → HasFull steps (place + 1)
still_full steps place has =
    record { at = has.at; step = has.step; below = omega (arith, has.below); there = has.there; full = has.full }

pub still_none : (steps : List Step) (place : ℕ) (step : Step) → slice_get steps place ≡ Some step → (HasFull steps place → ⊥)
    → (step.2 ≡ HistoryFull → ⊥) → HasFull steps (place + 1) → ⊥
still_none steps place step at none other has = elim (cases_lt has.at place) [
  | inl lower ↦ none (record { at = has.at; step = has.step; below = lower; there = has.there; full = has.full })
  | inr higher ↦
      let here : has.at ≡ place = omega (arith, has.below) in
      let same : Some step ≡ Some has.step = sym at ∙ ap (λ (k : ℕ). slice_get steps k) (sym here) ∙ has.there in
      let is : has.step ≡ step = cc in
      other (subst (λ (s : Step). s.2 ≡ HistoryFull) is has.full)
]

pub none_after_more : (steps : List Step) (place : ℕ) (step : Step) → slice_get steps place ≡ Some step → HasNoneAfterFullTo steps place
    → (HasFull steps place → entries_named step.1 ≡ []) → HasNoneAfterFullTo steps (place + 1)
none_after_more steps place step at good here = record { none = each }
  where
    each : (first later : ℕ) (full other : Step) → slice_get (take (place + 1) steps) first ≡ Some full → full.2 ≡ HistoryFull → first < later
        → slice_get (take (place + 1) steps) later ≡ Some other → entries_named other.1 ≡ []
    each first later full other there is h after =
        let b : later < place + 1 = taken_below (place + 1) steps later other after in
        let there' : slice_get steps first ≡ Some full = sym (get_taken (place + 1) steps first (omega arith)) ∙ there in
        let after' : slice_get steps later ≡ Some other = sym (get_taken (place + 1) steps later b) ∙ after in
        elim (cases_lt later place) [
          | inl lower ↦
              good.none first later full other (get_taken place steps first (omega arith) ∙ there') is h
              (get_taken place steps later lower ∙ after')
          | inr higher ↦
              let e : place ≡ later = omega arith in
              let same : Some step ≡ Some other = sym at ∙ ap (λ (k : ℕ). slice_get steps k) e ∙ after' in
              let s : step ≡ other = cc in
              subst (λ (s : Step). entries_named s.1 ≡ []) s
              (here (record { at = first; step = full; below = omega arith; there = there'; full = is }))
        ]

pub first_after : (steps : List Step) (place : ℕ) (step : Step) → slice_get steps place ≡ Some step → HasNoneAfterFullTo steps place
    → HasFull steps place → (entries_named step.1 ≡ [] → ⊥) → IsBadAt (HasNoneAfterFullTo steps) (length steps) place
first_after steps place step at good has some = record {
  within = slice_get_within steps place step at;
  good = good;
  bad = λ all.
      some (all.none has.at place has.step step
      (get_taken (suc place) steps has.at (omega (arith, has.below)) ∙ has.there) has.full has.below
      (get_taken (suc place) steps place (omega arith) ∙ at));
}

-- said of all lines
pub all_after_full : (steps : List Step) → HasNoneAfterFullTo steps (length steps) ↔ HasNoneAfterFull steps
all_after_full steps =
    let same : take (length steps) steps ≡ steps = take_all (length steps) steps (omega arith) in
    (λ good. subst HasNoneAfterFull same good, λ good. subst HasNoneAfterFull (sym same) good)

pub fewer_after_full : (steps : List Step) (m n : ℕ) → m ≤ n → HasNoneAfterFullTo steps n → HasNoneAfterFullTo steps m
fewer_after_full steps m n h all = record {
  none = λ place later full step at is l there.
      let b : later < m = taken_below m steps later step there in
      all.none place later full step
      (get_taken n steps place (omega arith) ∙ sym (get_taken m steps place (omega arith)) ∙ at) is l
      (get_taken n steps later (omega arith) ∙ sym (get_taken m steps later b) ∙ there);
}
