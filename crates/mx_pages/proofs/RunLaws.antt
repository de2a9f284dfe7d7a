-- What is free after a run was given out or freed, and that the run given out is the lowest.
use Rattle.std.proofs.Common.{ℕ, ◌≡◌, ◌+◌, ◌-◌, ◌<◌, ◌≤◌, nat_le, List, length, get_or, Bool, true, false, cond, Option, Some, None, true≢false, refl, sym, ap, subst, ◌∙◌, arith, ◌⊎◌, ◌↔◌, inl, inr, IfSome, IfNone}
use Rattle.std.proofs.lemmas.Bool.{cases_lt, and_parts, and_from, leb-true, ltb-true, le-leb, lt-ltb}
use Rattle.std.proofs.lemmas.List.{get_or_past}
use Rattle.mx_pages.specs.Runs.{PageMap, is_free, IsFree, IsFreeRun, IsLowestRun, IsInRun, is_in_run, run_at, run_given, free_from, with_run, after_run}
use Rattle.mx_pages.proofs.PageLaws.{first_page, pages_fail, row_passes, row_at, value_at, length_by_page}

pub in_run : (n first page : ℕ) → IsInRun n first page → is_in_run n first page ≡ true
in_run n first page is = and_from _ _ (le-leb first page is.0) (lt-ltb page (first + n) is.1)

pub is_in : (n first page : ℕ) → is_in_run n first page ≡ true → IsInRun n first page
is_in n first page is = let parts = and_parts _ _ is in (leb-true first page parts.0, ltb-true page (first + n) parts.1)

-- no page past the last is free
pub there : (free : List Bool) (page : ℕ) → length free ≡ 1024 → get_or free page false ≡ true → page < 1024
there free page long is = elim (cases_lt page 1024) [
  | inl below ↦ below
  | inr past ↦ absurd (true≢false (sym is ∙ get_or_past free page false (omega arith)))
]

-- which pages are free at the opening
module _ (first page : ℕ) where
  pub free_from_on : IsFree (free_from first) page → first ≤ page
  free_from_on free =
      let below = there (free_from first).free page (length_by_page (nat_le first)) free in
      leb-true first page (sym (value_at (nat_le first) page below) ∙ free)

  pub free_at_opening : first ≤ page → page < 1024 → IsFree (free_from first) page
  free_at_opening from below = value_at (nat_le first) page below ∙ le-leb first page from

-- what a page is after a run was set free or not free
module _ (value : Bool) (pages : PageMap) (first n page : ℕ) where
  abbrev pub set_to : Bool → Bool
  set_to inside = cond inside value (is_free pages page)

  pub set_at : page < 1024 → is_free (with_run value pages first n) page ≡ set_to (is_in_run n first page)
  set_at below = value_at (λ page. cond (is_in_run n first page) value (is_free pages page)) page below

  set_below : IsFree (with_run value pages first n) page → page < 1024
  set_below free = there (with_run value pages first n).free page (length_by_page (λ page. cond (is_in_run n first page) value (is_free pages page))) free

  pub set_in : page < 1024 → IsInRun n first page → is_free (with_run value pages first n) page ≡ value
  set_in below inside = set_at below ∙ ap set_to (in_run n first page inside)

  pub set_out : page < 1024 → (IsInRun n first page → ⊥) → is_free (with_run value pages first n) page ≡ is_free pages page
  set_out below outside = by (is_in_run n first page) refl
    where
      by : (b : Bool) → is_in_run n first page ≡ b → is_free (with_run value pages first n) page ≡ is_free pages page
      by true inside = absurd (outside (is_in n first page inside))
      by false out = set_at below ∙ ap set_to out

  within_or_not : IsInRun n first page ⊎ (IsInRun n first page → ⊥)
  within_or_not = elim (cases_lt page first) [
    | inl lower ↦ inr (λ inside. omega (arith, inside.0))
    | inr from ↦ elim (cases_lt page (first + n)) [ inl inside ↦ inl (from, inside) | inr past ↦ inr (λ inside. omega (arith, inside.1)) ]
  ]

module _ (pages : PageMap) (first n page : ℕ) where
  -- a page of a run that was given out is free no more, and every other is as it was
  pub taken : IsInRun n first page → IsFree (with_run false pages first n) page → ⊥
  taken inside free = true≢false (sym free ∙ set_in false pages first n page (set_below false pages first n page free) inside)

  pub was_free : IsFree (with_run false pages first n) page → IsFree pages page
  was_free free = elim (within_or_not false pages first n page) [
    | inl inside ↦ absurd (taken inside free)
    | inr outside ↦ sym (set_out false pages first n page (set_below false pages first n page free) outside) ∙ free
  ]

  pub left_free : length pages.free ≡ 1024 → IsFree pages page → (IsInRun n first page → ⊥) → IsFree (with_run false pages first n) page
  left_free long free outside = set_out false pages first n page (there pages.free page long free) outside ∙ free

  -- a page of a run that was freed is free, and every other is as it was
  pub freed : first + n ≤ 1024 → IsInRun n first page → IsFree (with_run true pages first n) page
  freed fit inside = set_in true pages first n page (omega (arith, inside.1)) inside

  pub free_or_freed : IsFree (with_run true pages first n) page → IsFree pages page ⊎ IsInRun n first page
  free_or_freed free = elim (within_or_not true pages first n page) [
    | inl inside ↦ inr inside
    | inr outside ↦ inl (sym (set_out true pages first n page (set_below true pages first n page free) outside) ∙ free)
  ]

  pub still_free : length pages.free ≡ 1024 → IsFree pages page → IsFree (with_run true pages first n) page
  still_free long free = elim (within_or_not true pages first n page) [
    | inl inside ↦ set_in true pages first n page (there pages.free page long free) inside
    | inr outside ↦ set_out true pages first n page (there pages.free page long free) outside ∙ free
  ]

-- where a run was refused, the pages are as they were
pub was_free_before : (pages : PageMap) (n page : ℕ) (given : Option ℕ) → IsFree (after_run pages n given) page → IsFree pages page
was_free_before pages n page (Some first) free = was_free pages first n page free
was_free_before pages n page None free = free

module _ (pages : PageMap) (n : ℕ) where
  pub given_free : (first : ℕ) → run_given pages n ≡ Some first → IsFreeRun pages n first
  given_free first is = λ k less. row_at (is_free pages) first n (first_page (run_at pages n) first is).passing k less

  pub given_lowest : (first : ℕ) → run_given pages n ≡ Some first → IsLowestRun pages n first
  given_lowest first is = record {
    free = given_free first is;
    lowest = λ other run. elim (cases_lt other first) [
      | inl lower ↦ absurd (true≢false (sym (row_passes (is_free pages) other n run) ∙ (first_page (run_at pages n) first is).before other (omega arith) lower))
      | inr not_lower ↦ not_lower
    ];
  }

  module _ (long : length pages.free ≡ 1024) (some : 1 ≤ n) where
    pub run_within : (first : ℕ) → IsFreeRun pages n first → first + n ≤ 1024
    run_within first run = omega (arith, there pages.free (first + (n - 1)) long (run (n - 1) (omega arith)))

    pub none_given : run_given pages n ≡ None → (first : ℕ) → IsFreeRun pages n first → ⊥
    none_given is first run =
        true≢false (sym (row_passes (is_free pages) first n run) ∙ pages_fail (run_at pages n) is first (omega (arith, run_within first run)))

    -- the same of what is told
    pub told_within : (told : Option ℕ) → told ≡ run_given pages n → IfSome told (λ first. first + n ≤ 1024)
    told_within (Some first) is = run_within first (given_free first (sym is))
    told_within None is = tt

    pub told_lowest : (told : Option ℕ) → told ≡ run_given pages n → IfSome told (λ first. IsLowestRun pages n first)
    told_lowest (Some first) is = given_lowest first (sym is)
    told_lowest None is = tt

    pub told_none : (told : Option ℕ) → told ≡ run_given pages n → IfNone told ((first : ℕ) → IsFreeRun pages n first → ⊥)
    told_none (Some first) is = tt
    told_none None is = none_given (sym is)

-- which pages are free after a run was given out, and after one was freed
module _ (pages after : PageMap) (first n : ℕ) (long : length pages.free ≡ 1024) where
  pub only_taken : after ≡ with_run false pages first n → (page : ℕ) → IsFree after page ↔ (IsFree pages page × (IsInRun n first page → ⊥))
  only_taken is page = subst (λ (after : PageMap). IsFree after page ↔ (IsFree pages page × (IsInRun n first page → ⊥))) (sym is)
      (λ free. (was_free pages first n page free, λ inside. taken pages first n page inside free), λ was. left_free pages first n page long was.0 was.1)

  pub only_freed : first + n ≤ 1024 → after ≡ with_run true pages first n → (page : ℕ) → IsFree after page ↔ (IsFree pages page ⊎ IsInRun n first page)
  only_freed fit is page = subst (λ (after : PageMap). IsFree after page ↔ (IsFree pages page ⊎ IsInRun n first page)) (sym is) (
    free_or_freed pages first n page,
    λ was. elim was [
      | inl free ↦ still_free pages first n page long free
      | inr inside ↦ freed pages first n page fit inside
    ],
  )
