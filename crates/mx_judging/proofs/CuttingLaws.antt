-- A moment more of a process: the times go on, and the lines that are begun.
use Rattle.std.proofs.Common.{◌≡◌, ◌⊎◌, inl, inr, ℕ, suc, ◌+◌, ◌<◌, ◌≤◌, List, [], ◌∷◌, ◌++◌, map, length, get_or, refl, ap, sym, ◌∙◌, subst, arith, append_assoc, append-nil}
use Rattle.std.proofs.lemmas.Bool.{cases_eq, cases_lt}
use Rattle.std.proofs.lemmas.Grind.{common_steps}
use Rattle.std.proofs.lemmas.List.{map-append}
use Rattle.std.proofs.lemmas.List.Elements.{filter-append}
use Rattle.mx_judging.specs.Stories.{AreRising, NeverFalls, Times, times_of}
use Rattle.mx_judging.specs.Cutting.{IsUpTo, all_begun, lines_begun, times}
use Rattle.mx_judging.specs.declared.courses.Course.{Course}
use Rattle.mx_judging.specs.declared.courses.Moment.{Moment}
use Rattle.mx_judging.proofs.MomentLaws.{never_more}

-- A process more.
pub rising_more : (all : Times) (ts : List ℕ) → AreRising all → NeverFalls ts → AreRising (all ++ ts ∷ [])
rising_more all ts rising never = record {
  each = λ p. elim (cases_lt p (length all)) [
    | inl below ↦ let own : NeverFalls (get_or all p []) = rising.each p in
        let same : get_or (all ++ ts ∷ []) p [] ≡ get_or all p [] = grind (arith, common_steps) in rw same own
    | inr above ↦ elim (cases_eq p (length all)) [
      | inl e ↦ let same : get_or (all ++ ts ∷ []) p [] ≡ ts = grind (arith, common_steps) in rw same never
      | inr ne ↦ let none : get_or (all ++ ts ∷ []) p [] ≡ [] = grind (arith, common_steps, above) in rw none (record { each = λ i h. omega (arith, h) })
    ]
  ];
}

pub rising_next : (courses after : List Course) (course : Course) → AreRising (times_of courses)
    → NeverFalls (times course.moments.items) → after ≡ courses ++ course ∷ [] → AreRising (times_of after)
rising_next courses after course rising never more =
    subst (λ (all : Times). AreRising all)
    (sym (ap times_of more ∙ map-append (λ (c : Course). times c.moments.items) courses (course ∷ [])))
    (rising_more (times_of courses) (times course.moments.items) rising never)

-- The lines of the processes so far, and behind them those of the others.
pub begun_next : {X : Type 0} (f : X → List ℕ) (all left rest : List X) (one : X) (courses after : List Course) (course : Course)
    → all_begun courses ++ map f left ≡ map f all → left ≡ one ∷ rest → lines_begun course.moments.items ≡ f one
    → after ≡ courses ++ course ∷ [] → all_begun after ++ map f rest ≡ map f all
begun_next {X} f all left rest one courses after course so_far split lines more =
    ap (λ (cs : List Course). all_begun cs ++ map f rest) more
    ∙ ap (λ (ls : List (List ℕ)). ls ++ map f rest)
    (map-append (λ (c : Course). lines_begun c.moments.items) courses (course ∷ []))
    ∙ append_assoc (all_begun courses) (lines_begun course.moments.items ∷ []) (map f rest)
    ∙ ap (λ (ls : List ℕ). all_begun courses ++ ls ∷ map f rest) lines
    ∙ ap (λ (xs : List X). all_begun courses ++ map f xs) (sym split)
    ∙ so_far

pub begun_done : {X : Type 0} (f : X → List ℕ) (all left : List X) (courses : List Course)
    → all_begun courses ++ map f left ≡ map f all → left ≡ [] → all_begun courses ≡ map f all
begun_done {X} f all left courses so_far none =
    sym (append-nil (all_begun courses)) ∙ ap (λ (xs : List X). all_begun courses ++ map f xs) (sym none) ∙ so_far
