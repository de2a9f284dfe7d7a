-- Laws on the words of a command line.
use Rattle.std.proofs.Common.{◌≡◌, ℕ, ◌<◌, ◌≤◌, List, [], ◌∷◌, length, map, get_or, Option, None, Some, refl, ap, sym, subst, ◌∙◌, arith, inl, inr}
use Rattle.std.specs.Prelude.{codes}
use Rattle.mx_drill.specs.Numbers.{IsNumber, IsNumberOf}
use Rattle.mx_run.specs.Commands.{IsRun, IsDrill, IsCheck, IsAccepted}
use Rattle.mx_run.specs.Reading.{IsDrillOf}

-- the words `drill` and some digits
pub drill_words : {A : Type 0} (f : A → List ℕ) (words : List A) (word digits : A) (told : Option ℕ) → 2 ≤ length words → length words < 3
    → word ≡ get_or words 0 word → digits ≡ get_or words 1 digits → f word ≡ codes "drill" → IsNumberOf (f digits) told
    → IsDrillOf (map f words) told
drill_words f [] word digits told low high first second drill is = absurd (omega arith)
drill_words f (a ∷ []) word digits told low high first second drill is = absurd (omega arith)
drill_words f (a ∷ b ∷ c ∷ words) word digits told low high first second drill is = absurd (omega arith)
drill_words f (a ∷ b ∷ []) word digits None low high first second drill is =
    λ number d. let same : d.digits ≡ f digits = cc in is number (subst (λ (t : List ℕ). IsNumber t number) same d.spelled)
drill_words f (a ∷ b ∷ []) word digits (Some n) low high first second drill is =
    let one : f a ≡ codes "drill" = ap f (sym first) ∙ drill in
    record {
      digits = f digits;
      words_are = rw (one, ap f (sym second)) refl;
      spelled = is;
    }

pub not_accepted : (words : List (List ℕ)) → (IsRun words → ⊥) → ((number : ℕ) → IsDrill words number → ⊥) → (IsCheck words → ⊥)
    → IsAccepted words → ⊥
not_accepted words run drill check (inl r) = run r
not_accepted words run drill check (inr (inl d)) = drill d.0 d.1
not_accepted words run drill check (inr (inr c)) = check c

pub run_is_no_drill : (words : List (List ℕ)) (number : ℕ) → IsRun words → IsDrill words number → ⊥
run_is_no_drill words number run drill =
    let two : codes "run" ∷ [] ≡ codes "drill" ∷ drill.digits ∷ [] = sym run ∙ drill.words_are in
    cc

pub run_is_no_check : (words : List (List ℕ)) → IsRun words → IsCheck words → ⊥
run_is_no_check words run check =
    let two : codes "run" ∷ [] ≡ codes "check" ∷ [] = sym run ∙ check in
    cc

pub check_is_no_drill : (words : List (List ℕ)) (number : ℕ) → IsCheck words → IsDrill words number → ⊥
check_is_no_drill words number check drill =
    let two : codes "check" ∷ [] ≡ codes "drill" ∷ drill.digits ∷ [] = sym check ∙ drill.words_are in
    cc
