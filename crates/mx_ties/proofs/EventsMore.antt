-- Events, traces and numbers that grow at their end.
use Rattle.std.proofs.Common.{◌≡◌, ℕ, zero, suc, ◌+◌, ◌<◌, ◌≤◌, List, [], ◌∷◌, ◌++◌, length, refl, ap, sym, ◌∙◌, Some, arith, append_assoc}
use Rattle.std.specs.List.{slice_get}
use Rattle.std.proofs.lemmas.List.{append-nil}
use Rattle.mx_core.specs.declared.elements.Event.{Event}
use Rattle.mx_transcript.specs.declared.transcripts.Event2.{Event2}
use Rattle.mx_transcript.specs.declared.transcripts.Event2.TheVariants.{Core, Entry}
use Rattle.mx_transcript.specs.Courses.{Judged}
use Rattle.mx_transcript.specs.Transcripts.{Step, events_of, entries_named}
use Rattle.mx_ties.specs.Counting.{IsRising}
use Rattle.mx_ties.specs.Views.{Kept, Referred, Missed, judged_in, cores, cores_before}

pub events_more : (steps : List Step) (step : Step) → events_of (steps ++ step ∷ []) ≡ events_of steps ++ step.1
events_more [] step = append-nil step.1
events_more (first ∷ steps) step =
    ap (λ (l : List Event2). first.1 ++ l) (events_more steps step)
    ∙ sym (append_assoc first.1 (events_of steps) step.1)

pub cores_more : (a b : List Event2) → cores (a ++ b) ≡ cores a ++ cores b
cores_more [] b = refl
cores_more (Core event ∷ a) b = ap (λ (l : List Event). event ∷ l) (cores_more a b)
cores_more (Entry number ∷ a) b = cores_more a b

pub named_more : (a b : List Event2) → entries_named (a ++ b) ≡ entries_named a ++ entries_named b
named_more [] b = refl
named_more (Core event ∷ a) b = named_more a b
named_more (Entry number ∷ a) b = ap (λ (l : List ℕ). number ∷ l) (named_more a b)

pub named_same : (a : List Event2) (event : Event) → entries_named (a ++ Core event ∷ []) ≡ entries_named a
named_same a event = named_more a (Core event ∷ []) ∙ append-nil (entries_named a)

pub before_old : (a b : List Event2) (place : ℕ) → place ≤ length a → cores_before (a ++ b) place ≡ cores_before a place
before_old [] [] zero l = refl
before_old [] (event ∷ b) zero l = refl
before_old [] b (suc place) l = absurd (omega arith)
before_old (event ∷ a) b zero l = refl
before_old (Core event ∷ a) b (suc place) l = ap suc (before_old a b place (omega arith))
before_old (Entry number ∷ a) b (suc place) l = before_old a b place (omega arith)

pub before_all : (a : List Event2) → cores_before a (length a) ≡ length (cores a)
before_all [] = refl
before_all (Core event ∷ a) = ap suc (before_all a)
before_all (Entry number ∷ a) = before_all a

pub judged_more : (trace : List Kept) (j : Judged) → judged_in (trace ++ Referred j ∷ []) ≡ judged_in trace ++ j ∷ []
judged_more [] j = refl
judged_more (Referred first ∷ trace) j = ap (λ (l : List Judged). first ∷ l) (judged_more trace j)
judged_more (Missed segno by ∷ trace) j = judged_more trace j

pub judged_same : (trace : List Kept) (segno by : ℕ) → judged_in (trace ++ Missed segno by ∷ []) ≡ judged_in trace
judged_same [] segno by = refl
judged_same (Referred first ∷ trace) segno by = ap (λ (l : List Judged). first ∷ l) (judged_same trace segno by)
judged_same (Missed segno' by' ∷ trace) segno by = judged_same trace segno by

pub rising_more : (low : ℕ) (numbers : List ℕ) (number : ℕ) → low ≤ number
    → ((i other : ℕ) → slice_get numbers i ≡ Some other → other < number) → IsRising low numbers
    → IsRising low (numbers ++ number ∷ [])
rising_more low [] number least below rising = (least, tt)
rising_more low (first ∷ numbers) number least below rising = (
  rising.0,
  rising_more (first + 1) numbers number (let l = below 0 first refl in omega arith)
      (λ i other h. below (suc i) other h) rising.1,
)
