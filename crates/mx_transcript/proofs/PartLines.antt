-- The lines that a part has: what is true of all lines of its script is true of them; and a part with no denied line has all
-- lines of its script.
use Rattle.std.proofs.Common.{◌≡◌, ◌⊎◌, inl, inr, ℕ, zero, suc, ◌-◌, List, [], ◌∷◌, ◌++◌, take, length, refl, sym, subst, Option, Some, None, IsSome}
use Rattle.std.specs.List.{All, slice_get, cons_option}
use Rattle.std.proofs.lemmas.List.Elements.{All-append, All-take, All-drop}
use Rattle.mx_upcall.specs.Control.{Control}
use Rattle.mx_sdw.specs.declared.denials.Denial.{Denial}
use Rattle.mx_script.specs.declared.lines.Line.{Line}
use Rattle.mx_transcript.specs.Denials.{denial_of, denials}
use Rattle.mx_transcript.specs.Parts.{AreDone, AreLinesOf, AreLines, last_line}
use Rattle.mx_transcript.specs.Settings.{Setting}
use Rattle.mx_transcript.specs.Transcripts.{Step}

-- what is true of each line of a script
pub all_of_part : (P : ℕ × Line → Type 0) (lines ran : List (ℕ × Line)) (steps : List Step)
    → AreLinesOf lines steps ran → All P lines → All P ran
all_of_part P lines ran steps are all = elim are [
  | inl whole ↦ subst (All P) (sym whole) all
  | inr cut ↦ subst (All P) (sym cut.is)
      (All-append P (take (suc cut.place) lines) (last_line lines) (All-take P (suc cut.place) lines all)
      (All-drop P (length lines - 1) lines all))
]

-- a part that was done to the end is one of all its lines
pub whole_part : (s : Setting) (before after : Control) (lines : List (ℕ × Line)) (steps : List Step)
    → AreDone s before lines steps [] after → AreLines s before lines steps after
whole_part s before after lines steps done = record { ran = lines; are = inl refl; done = done }

not_first : (first : Option (ℕ × Denial)) (ds : List (ℕ × Denial)) → cons_option first ds ≡ [] → IsSome first → ⊥
not_first None ds none there = cc
not_first (Some denial) ds none there = cc

none_later : (first : Option (ℕ × Denial)) (ds : List (ℕ × Denial)) → cons_option first ds ≡ [] → ds ≡ []
none_later None ds none = none
none_later (Some denial) ds none = absurd cc

-- no line is denied where there are no denials
none_denied : (steps : List Step) (place : ℕ) (step : Step) → denials steps ≡ [] → slice_get steps place ≡ Some step
    → IsSome (denial_of step) → ⊥
none_denied [] place step none at denied = cc
none_denied (first ∷ steps) zero step none at denied =
    let same : first ≡ step = cc in
    not_first (denial_of first) (denials steps) none (subst (λ (t : Step). IsSome (denial_of t)) (sym same) denied)
none_denied (first ∷ steps) (suc place) step none at denied =
    none_denied steps place step (none_later (denial_of first) (denials steps) none) at denied

-- so such a part was not cut
pub all_ran : (lines ran : List (ℕ × Line)) (steps : List Step) → denials steps ≡ [] → AreLinesOf lines steps ran
    → ran ≡ lines
all_ran lines ran steps none are = elim are [
  | inl whole ↦ whole
  | inr cut ↦ absurd (none_denied steps cut.place cut.step none cut.at cut.denied)
]

pub all_done : (s : Setting) (before after : Control) (lines : List (ℕ × Line)) (steps : List Step) → denials steps ≡ []
    → AreLines s before lines steps after → AreDone s before lines steps [] after
all_done s before after lines steps none are =
    subst (λ (ran : List (ℕ × Line)). AreDone s before ran steps [] after) (all_ran lines are.ran steps none are.are) are.done

-- where only the first line is denied, a part that was cut has the first line and the last
pub cut_at_first : (lines ran : List (ℕ × Line)) (first : Step) (steps : List Step) → denials steps ≡ []
    → AreLinesOf lines (first ∷ steps) ran → (ran ≡ lines) ⊎ (ran ≡ take 1 lines ++ last_line lines)
cut_at_first lines ran first steps none are = elim are [
  | inl whole ↦ inl whole
  | inr cut ↦ inr (at_first cut.place cut.step cut.at cut.denied cut.is)
]
  where
    at_first : (place : ℕ) (step : Step) → slice_get (first ∷ steps) place ≡ Some step → IsSome (denial_of step)
        → ran ≡ take (suc place) lines ++ last_line lines → ran ≡ take 1 lines ++ last_line lines
    at_first zero step at denied is = is
    at_first (suc place) step at denied is = absurd (none_denied steps place step none at denied)
