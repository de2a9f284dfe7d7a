-- What is found among all the pages, and a list by page.
use Rattle.std.proofs.Common.{ℕ, zero, suc, ◌≡◌, ◌+◌, ◌-◌, ◌<◌, ◌≤◌, List, length, get_or, map, Bool, true, false, cond, Some, None, find, inl, inr, refl, sym, ap, ◌∙◌, subst, arith}
use Rattle.std.specs.List.{range_with_len, list_all}
use Rattle.std.proofs.lemmas.Bool.{cases_eq, cond-true, cond-false, and_from, and_parts}
use Rattle.std.proofs.lemmas.List.FromFn.{length-map-range_with_len, get_or-map-range_with_len, fill_by_all}
use Rattle.mx_pages.specs.Runs.{every_page}

-- the pages by a number that does not compute
all_pages : (n : ℕ) → n ≡ 1024 → every_page ≡ range_with_len 0 n
unfolding every_page
all_pages n is = ap (range_with_len 0) (sym is)

-- the least number below an end that passes a test
pub record IsFirst (passes : ℕ → Bool) (from end first : ℕ) : Type 0 where
  pub from_on : from ≤ first
  pub within : first < end
  pub passing : passes first ≡ true
  pub before : (number : ℕ) → from ≤ number → number < first → passes number ≡ false

module _ (passes : ℕ → Bool) where
  found_in : (from n first : ℕ) → IsFirst passes from (from + n) first → find passes (range_with_len from n) ≡ Some first
  found_in from zero first is = absurd (omega arith)
  found_in from (suc n) first is = elim (cases_eq from first) [
    | inl same ↦ cond-true (passes from) _ _ (ap passes same ∙ is.passing) ∙ ap Some same
    | inr later ↦ cond-false (passes from) _ _ (is.before from (omega arith) (omega arith)) ∙ found_in (from + 1) n first (record {
      from_on = omega arith;
      within = omega arith;
      passing = is.passing;
      before = λ number low high. is.before number (omega arith) high;
    })
  ]

  none_in : (from n : ℕ) → ((number : ℕ) → from ≤ number → number < from + n → passes number ≡ false) → find passes (range_with_len from n) ≡ None
  none_in from zero fail = refl
  none_in from (suc n) fail =
      cond-false (passes from) _ _ (fail from (omega arith) (omega arith)) ∙ none_in (from + 1) n (λ number low high. fail number (omega arith) (omega arith))

  -- what is found passes, and none before it
  first_in : (from n first : ℕ) → find passes (range_with_len from n) ≡ Some first → IsFirst passes from (from + n) first
  first_in from zero first is = absurd (cc)
  first_in from (suc n) first is = by (first_in (from + 1) n first) (passes from) refl is
    where
      by : (find passes (range_with_len (from + 1) n) ≡ Some first → IsFirst passes (from + 1) (from + 1 + n) first)
          → (b : Bool) → passes from ≡ b → cond b (Some from) (find passes (range_with_len (from + 1) n)) ≡ Some first → IsFirst passes from (from + suc n) first
      by further true pass here =
          let same : from ≡ first = cc in
          record { from_on = omega arith; within = omega arith; passing = ap passes (sym same) ∙ pass; before = λ number low high. absurd (omega arith) }
      by further false fail later =
          let more = further later in
          record {
            from_on = omega (arith, more.from_on);
            within = omega (arith, more.within);
            passing = more.passing;
            before = λ number low high. elim (cases_eq from number) [
              | inl same ↦ ap passes (sym same) ∙ fail
              | inr other ↦ more.before number (omega arith) high
            ];
          }

  fail_in : (from n : ℕ) → find passes (range_with_len from n) ≡ None → (number : ℕ) → from ≤ number → number < from + n → passes number ≡ false
  fail_in from zero is number low high = absurd (omega arith)
  fail_in from (suc n) is number low high = by (λ later other. fail_in (from + 1) n later number (omega arith) (omega arith)) (passes from) refl is
    where
      by : (find passes (range_with_len (from + 1) n) ≡ None → (from ≡ number → ⊥) → passes number ≡ false)
          → (b : Bool) → passes from ≡ b → cond b (Some from) (find passes (range_with_len (from + 1) n)) ≡ None → passes number ≡ false
      by further true pass here = absurd (cc)
      by further false fail later = elim (cases_eq from number) [
        | inl same ↦ ap passes (sym same) ∙ fail
        | inr other ↦ further later other
      ]

  -- the same of all the pages
  pub page_found : (first : ℕ) → IsFirst passes 0 1024 first → find passes every_page ≡ Some first
  page_found first is = by 1024 refl
    where
      by : (n : ℕ) → n ≡ 1024 → find passes every_page ≡ Some first
      by n all = let end : 1024 ≡ 0 + n = omega arith in
          ap (find passes) (all_pages n all) ∙ found_in 0 n first (subst (λ end. IsFirst passes 0 end first) end is)

  pub no_page_found : ((page : ℕ) → page < 1024 → passes page ≡ false) → find passes every_page ≡ None
  no_page_found fail = by 1024 refl
    where
      by : (n : ℕ) → n ≡ 1024 → find passes every_page ≡ None
      by n all = ap (find passes) (all_pages n all) ∙ none_in 0 n (λ page low high. fail page (omega arith))

  pub first_page : (first : ℕ) → find passes every_page ≡ Some first → IsFirst passes 0 1024 first
  first_page first is = by 1024 refl
    where
      by : (n : ℕ) → n ≡ 1024 → IsFirst passes 0 1024 first
      by n all = let end : 0 + n ≡ 1024 = omega arith in
          subst (λ end. IsFirst passes 0 end first) end (first_in 0 n first (ap (find passes) (sym (all_pages n all)) ∙ is))

  pub pages_fail : find passes every_page ≡ None → (page : ℕ) → page < 1024 → passes page ≡ false
  pages_fail is page below = by 1024 refl
    where
      by : (n : ℕ) → n ≡ 1024 → passes page ≡ false
      by n all = fail_in 0 n (ap (find passes) (sym (all_pages n all)) ∙ is) page (omega arith) (omega arith)

  -- whether numbers in a row all pass
  pub row_passes : (first n : ℕ) → ((k : ℕ) → k < n → passes (first + k) ≡ true) → list_all passes (range_with_len first n) ≡ true
  row_passes first zero pass = refl
  row_passes first (suc n) pass =
      let here : first + 0 ≡ first = omega arith in
      and_from _ _ (ap passes (sym here) ∙ pass 0 (omega arith))
      (row_passes (first + 1) n (λ k less. let there : first + 1 + k ≡ first + (k + 1) = omega arith in ap passes there ∙ pass (k + 1) (omega arith)))

  pub row_at : (first n : ℕ) → list_all passes (range_with_len first n) ≡ true → (k : ℕ) → k < n → passes (first + k) ≡ true
  row_at first zero all k less = absurd (omega arith)
  row_at first (suc n) all k less = elim (cases_eq k 0) [
    | inl none ↦ let here : first + k ≡ first = omega arith in ap passes here ∙ (and_parts _ _ all).0
    | inr some ↦ let there : first + k ≡ first + 1 + (k - 1) = omega arith in
        ap passes there ∙ row_at (first + 1) n (and_parts _ _ all).1 (k - 1) (omega arith)
  ]

  pub row_fails : (first n k : ℕ) → k < n → passes (first + k) ≡ false → list_all passes (range_with_len first n) ≡ false
  row_fails first n k less fail = by (list_all passes (range_with_len first n)) refl
    where
      by : (b : Bool) → list_all passes (range_with_len first n) ≡ b → b ≡ false
      by true all = sym (row_at first n all k less) ∙ fail
      by false _ = refl

-- a list with one value for each page
module _ (value : ℕ → Bool) where
  pub value_at : (page : ℕ) → page < 1024 → get_or (map value every_page) page false ≡ value page
  value_at page below = by 1024 refl
    where
      by : (n : ℕ) → n ≡ 1024 → get_or (map value every_page) page false ≡ value page
      by n all = ap (λ pages. get_or (map value pages) page false) (all_pages n all)
          ∙ get_or-map-range_with_len value 0 n page page false (omega arith) (omega arith)

  pub length_by_page : length (map value every_page) ≡ 1024
  length_by_page = by 1024 refl
    where
      by : (n : ℕ) → n ≡ 1024 → length (map value every_page) ≡ 1024
      by n all = ap (λ pages. length (map value pages)) (all_pages n all) ∙ length-map-range_with_len value 0 n ∙ all

  pub by_page : (values : List Bool) → length values ≡ 1024 → ((page : ℕ) → page < 1024 → get_or values page false ≡ value page) → values ≡ map value every_page
  by_page values long same = by 1024 refl
    where
      by : (n : ℕ) → n ≡ 1024 → values ≡ map value every_page
      by n all = fill_by_all value values n false (long ∙ sym all) (λ page below. same page (omega arith)) ∙ ap (map value) (sym (all_pages n all))
