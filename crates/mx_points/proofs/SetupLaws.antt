-- Lines of the setup, each as it should be.
use Rattle.std.proofs.Common.{◌≡◌, ◌↔◌, ℕ, ◌+◌, ◌≤◌, Bool, true, false, not, leb, List, Some, inl, inr, length, refl, ap, sym, subst, ◌∙◌, arith}
use Rattle.std.specs.Bool.{beq}
use Rattle.std.specs.List.{slice_get}
use Rattle.std.proofs.lemmas.Bool.{both_ways, cases_Bool, cases_lt, leb-false, leb-true}
use Rattle.std.proofs.lemmas.Option.{slice_get_within}
use Rattle.mx_transcript.specs.FullJournal.{AreFullFrom}
use Rattle.mx_transcript.specs.Transcripts.{Step}
use Rattle.mx_transcript.specs.declared.transcripts.Result2.TheVariants.{HistoryFull}
use Rattle.mx_points.specs.Fronts.{AreSetupLinesTo}

pub one_setup_more : (setup : ℕ) (steps : List Step) (place : ℕ) (step : Step) → slice_get steps place ≡ Some step
    → AreSetupLinesTo setup steps place → (setup ≤ place) ↔ (step.2 ≡ HistoryFull) → AreSetupLinesTo setup steps (place + 1)
one_setup_more setup steps place step at good here other found h there = elim (cases_lt other place) [
  | inl lower ↦ good other found lower there
  | inr higher ↦
      let e : place ≡ other = omega (arith, h, higher) in
      let same : Some step ≡ Some found = sym at ∙ ap (λ (k : ℕ). slice_get steps k) e ∙ there in
      let is : step ≡ found = cc in
      subst (λ (k : ℕ). (setup ≤ k) ↔ (found.2 ≡ HistoryFull)) e
      (subst (λ (s : Step). (setup ≤ place) ↔ (s.2 ≡ HistoryFull)) is here)
]

-- a line is as it should be where both tests say the same
pub as_it_should : (setup place : ℕ) (is_full : Bool) (step : Step) → (is_full ≡ true) ↔ (step.2 ≡ HistoryFull)
    → not (beq (leb setup place) is_full) ≡ false → (setup ≤ place) ↔ (step.2 ≡ HistoryFull)
as_it_should setup place is_full step told same = elim (cases_Bool is_full) [
  | inl full ↦
      let past : leb setup place ≡ true = left_true (leb setup place) is_full full same in
      (λ h. told.0 full, λ h. leb-true setup place past)
  | inr other ↦
      let within : leb setup place ≡ false = left_false (leb setup place) is_full other same in
      (λ h. absurd (omega (arith, leb-false setup place within)), λ h. absurd (both_ways is_full other (told.1 h)))
]
  where
    left_true : (a b : Bool) → b ≡ true → not (beq a b) ≡ false → a ≡ true
    left_true true b e f = refl
    left_true false true e f = absurd cc
    left_true false false e f = absurd cc

    left_false : (a b : Bool) → b ≡ false → not (beq a b) ≡ false → a ≡ false
    left_false false b e f = refl
    left_false true false e f = absurd cc
    left_false true true e f = absurd cc

pub fewer_setup : (setup : ℕ) (steps : List Step) (m n : ℕ) → m ≤ n → AreSetupLinesTo setup steps n → AreSetupLinesTo setup steps m
fewer_setup setup steps m n h all place step l at = all place step (omega arith) at

-- said of all lines
pub setup_full : (setup : ℕ) (steps : List Step) → AreSetupLinesTo setup steps (length steps) → AreFullFrom setup steps
setup_full setup steps all = record {
  each = λ place step h at. (all place step (slice_get_within steps place step at) at).0 h;
}
