-- The events of the first lines, and of which line an event is.
use Rattle.std.proofs.Common.{◌≡◌, ℕ, zero, suc, ◌+◌, ◌-◌, ◌<◌, ◌≤◌, inl, inr, List, [], ◌∷◌, ◌++◌, Some, take, length, refl, ap, sym, ◌∙◌, arith, append_assoc, append-nil, length-append}
use Rattle.std.specs.List.{slice_get}
use Rattle.std.proofs.lemmas.List.{take_all}
use Rattle.std.proofs.lemmas.Bool.{cases_lt}
use Rattle.std.proofs.lemmas.Option.{slice_get_within}
use Rattle.mx_transcript.specs.Transcripts.{Step, events_of}
use Rattle.mx_transcript.specs.declared.transcripts.Event2.{Event2}
use Rattle.mx_points.specs.Fronts.{IsBadAt, IsLineOf}
use Rattle.mx_points.proofs.Places.{taken_more}

events_append : (xs ys : List Step) → events_of (xs ++ ys) ≡ events_of xs ++ events_of ys
events_append [] ys = refl
events_append (step ∷ xs) ys =
    ap (λ (l : List Event2). step.1 ++ l) (events_append xs ys) ∙ sym (append_assoc step.1 (events_of xs) (events_of ys))

-- the events of one line more
pub events_more : (steps : List Step) (k : ℕ) (step : Step) → slice_get steps k ≡ Some step
    → events_of (take (suc k) steps) ≡ events_of (take k steps) ++ step.1
events_more steps k step at =
    ap events_of (taken_more steps k step at)
    ∙ events_append (take k steps) (step ∷ [])
    ∙ ap (λ (l : List Event2). events_of (take k steps) ++ l) (append-nil step.1)

-- the events of the first lines are no more than those of more lines
pub events_rise : (steps : List Step) (m n : ℕ) → m ≤ n → length (events_of (take m steps)) ≤ length (events_of (take n steps))
events_rise steps zero n h = omega arith
events_rise [] (suc m) zero h = omega arith
events_rise [] (suc m) (suc n) h = omega arith
events_rise (step ∷ steps) (suc m) zero h = absurd (omega arith)
events_rise (step ∷ steps) (suc m) (suc n) h =
    let e : length (events_of (take m steps)) ≤ length (events_of (take n steps)) = events_rise steps m n (omega arith) in
    let a : length (step.1 ++ events_of (take m steps)) ≡ length step.1 + length (events_of (take m steps)) = length-append step.1 _ in
    let b : length (step.1 ++ events_of (take n steps)) ≡ length step.1 + length (events_of (take n steps)) = length-append step.1 _ in
    omega arith

pub events_all : (steps : List Step) → events_of (take (length steps) steps) ≡ events_of steps
events_all steps = ap events_of (take_all (length steps) steps (omega arith))

-- passing one line more
ends_at : (steps : List Step) (k : ℕ) (step : Step) (events : List Event2) → slice_get steps k ≡ Some step → step.1 ≡ events
    → length (events_of (take (suc k) steps)) ≡ length (events_of (take k steps)) + length events
ends_at steps k step events at same =
    ap length (events_more steps k step at) ∙ length-append (events_of (take k steps)) step.1
    ∙ ap (λ (l : List Event2). length (events_of (take k steps)) + length l) same

pub passed_more : (steps : List Step) (place left k : ℕ) (step : Step) (events : List Event2) → slice_get steps k ≡ Some step
    → step.1 ≡ events → place ≡ left + length (events_of (take k steps)) → length events ≤ left
    → place ≡ (left - length events) + length (events_of (take (k + 1) steps))
passed_more steps place left k step events at same e h =
    let one : k + 1 ≡ suc k = omega arith in
    let a : length (events_of (take (k + 1) steps)) ≡ length (events_of (take k steps)) + length events =
    ap (λ (n : ℕ). length (events_of (take n steps))) one ∙ ends_at steps k step events at same in
    omega arith

pub is_line : (steps : List Step) (place left k : ℕ) (step : Step) (events : List Event2) → slice_get steps k ≡ Some step
    → step.1 ≡ events → place ≡ left + length (events_of (take k steps)) → left < length events → IsLineOf steps place k
is_line steps place left k step events at same e h =
    let a : length (events_of (take (suc k) steps)) ≡ length (events_of (take k steps)) + length events = ends_at steps k step events at same in
    let w : k < length steps = slice_get_within steps k step at in
    record {
      within = omega arith;
      before = omega arith;
      in_line = λ l. omega arith;
    }

-- what fails first at an event fails first at its line, said of the events of the first lines
pub at_line : (holds : ℕ → Type 0) → ((m n : ℕ) → m ≤ n → holds n → holds m) → (steps : List Step) (place k : ℕ)
    → IsLineOf steps place k → IsBadAt holds (length (events_of steps)) place
    → IsBadAt (λ n. holds (length (events_of (take n steps)))) (length steps) k
at_line holds fewer steps place k line first =
    let there : k < length steps = inside in record {
      within = there;
      good = fewer (length (events_of (take k steps))) place line.before first.good;
      bad = λ all. first.bad (fewer (suc place) (length (events_of (take (suc k) steps))) (past (line.in_line there)) all);
    }
  where
    past : {n : ℕ} → place < n → suc place ≤ n
    past h = omega arith

    inside : k < length steps
    inside = elim (cases_lt k (length steps)) [
      | inl lower ↦ lower
      | inr higher ↦
          let same : k ≡ length steps = omega (arith, line.within) in
          let e : length (events_of (take k steps)) ≡ length (events_of steps) =
          ap (λ (n : ℕ). length (events_of (take n steps))) same ∙ ap length (events_all steps) in
          absurd (omega (arith, line.before, first.within))
    ]
