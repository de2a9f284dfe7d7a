-- Lines that found the journal full before an entry.
use Rattle.std.proofs.Common.{◌≡◌, inl, inr, ℕ, suc, ◌+◌, ◌<◌, ◌≤◌, List, [], length, Some, ap, sym, ◌∙◌, subst, arith, slice_get}
use Rattle.std.proofs.lemmas.Bool.{cases_lt}
use Rattle.std.proofs.lemmas.Option.{slice_get_within}
use Rattle.mx_points.specs.Fronts.{IsBadAt}
use Rattle.mx_transcript.specs.Transcripts.{Step, entries_named}
use Rattle.mx_transcript.specs.declared.transcripts.Result2.TheVariants.{HistoryFull}
use Rattle.mx_legal.specs.Deciding.{HasNoEntryFrom, HasNoFullTo, IsEnteredFrom, IsFirstFull}
use Rattle.mx_legal.specs.Fronts.{HasNoEarlyFullTo}

some_same : {A : Type 0} {a b : A} → Some a ≡ Some b → a ≡ b
some_same e = cc

-- one line more
pub no_full_more : (steps : List Step) (place : ℕ) (step : Step) → slice_get steps place ≡ Some step → HasNoFullTo steps place
    → (step.2 ≡ HistoryFull → ⊥) → HasNoFullTo steps (place + 1)
no_full_more steps place step at before not_full = λ other found below there full. elim (cases_lt other place) [
  | inl l ↦ before other found l there full
  | inr l ↦
      let here : place ≡ other = omega (arith, below, l) in
      let same : found ≡ step = some_same (sym there ∙ ap (slice_get steps) (sym here) ∙ at) in
      not_full (ap (λ (s : Step). s.2) (sym same) ∙ full)
]

pub no_entry_more : (steps : List Step) (from place : ℕ) (step : Step) → slice_get steps place ≡ Some step → HasNoEntryFrom steps from place
    → entries_named step.1 ≡ [] → HasNoEntryFrom steps from (place + 1)
no_entry_more steps from place step at before none = λ other found after below there. elim (cases_lt other place) [
  | inl l ↦ before other found after l there
  | inr l ↦
      let here : place ≡ other = omega (arith, below, l) in
      let same : step ≡ found = some_same (sym at ∙ ap (slice_get steps) here ∙ there) in
      subst (λ (s : Step). entries_named s.1 ≡ []) same none
]

pub no_early : (steps : List Step) → HasNoFullTo steps (length steps) → HasNoEarlyFullTo steps (length steps)
no_early steps none = λ place later full step below at ended after there. absurd (none place full below at ended)

pub no_entry_after : (steps : List Step) (full : ℕ) → IsFirstFull steps full → HasNoEntryFrom steps (full + 1) (length steps)
    → HasNoEarlyFullTo steps (length steps)
no_entry_after steps full first none = λ place later found step below at ended after there. elim (cases_lt place full) [
  | inl l ↦ absurd (first.before place found l at ended)
  | inr l ↦ none later step (omega (arith, l, after)) (slice_get_within steps later step there) there
]

pub early : (steps : List Step) (full later : ℕ) → IsFirstFull steps full → IsEnteredFrom steps (full + 1) later
    → IsBadAt (HasNoEarlyFullTo steps) (length steps) full
early steps full later first entered =
    let after = entered.after in
    record {
      within = slice_get_within steps full first.step first.at;
      good = λ place other found step below at ended h there. absurd (first.before place found below at ended);
      bad = λ all. entered.some (all full later first.step entered.step (omega arith) first.at first.full (omega (arith, after)) entered.at);
    }
