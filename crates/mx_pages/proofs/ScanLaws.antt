-- The pages are looked at from the first on: what is known of those that were passed.
use Rattle.std.proofs.Common.{ℕ, ◌≡◌, ◌+◌, ◌-◌, ◌<◌, ◌≤◌, List, length, get_or, Bool, true, false, cond, true≢false, Some, None, refl, sym, ap, ◌∙◌, arith, inl, inr}
use Rattle.std.proofs.lemmas.Bool.{cases_lt, cond-true, cond-false}
use Rattle.std.proofs.lemmas.List.{get_or_past}
use Rattle.mx_pages.specs.Runs.{PageMap, is_free, IsFree, run_at, run_given, with_run, is_in_run}
use Rattle.mx_pages.proofs.PageLaws.{page_found, no_page_found, row_passes, row_fails, by_page}
use Rattle.mx_pages.proofs.RunLaws.{in_run, is_in}

-- those from `first` on are free, fewer than n, and no run of n begins before them
pub record IsScanned (pages : PageMap) (n first page : ℕ) : Type 0 where
  pub low : first ≤ page
  pub few : page < first + n
  pub run : (other : ℕ) → first ≤ other → other < page → IsFree pages other
  pub none : (other : ℕ) → other < first → run_at pages n other ≡ false

module _ (pages : PageMap) (n : ℕ) where
  pub scan_begun : 1 ≤ n → IsScanned pages n 0 0
  scan_begun some = record {
    low = omega arith;
    few = omega arith;
    run = λ other low high. absurd (omega arith);
    none = λ other less. absurd (omega arith);
  }

  module _ (first page : ℕ) (scanned : IsScanned pages n first page) where
    pub scan_taken : is_free pages page ≡ false → IsScanned pages n (page + 1) (page + 1)
    scan_taken taken = record {
      low = omega arith;
      few = omega arith;
      run = λ other low high. absurd (omega arith);
      none = λ other less. elim (cases_lt other first) [
        | inl before ↦ scanned.none other before
        | inr from ↦ let there : other + (page - other) ≡ page = omega arith in
            row_fails (is_free pages) other n (page - other) (omega arith) (ap (is_free pages) there ∙ taken)
      ];
    }

    still_free : is_free pages page ≡ true → (other : ℕ) → first ≤ other → other < page + 1 → IsFree pages other
    still_free free other low high = elim (cases_lt other page) [
      | inl before ↦ scanned.run other low before
      | inr here ↦ let same : other ≡ page = omega arith in ap (is_free pages) same ∙ free
    ]

    pub scan_free : is_free pages page ≡ true → (page + 1 - first ≡ n → ⊥) → IsScanned pages n first (page + 1)
    scan_free free short = record {
      low = omega arith;
      few = elim (cases_lt (page + 1) (first + n)) [
        | inl fewer ↦ fewer
        | inr all ↦ absurd (short (omega arith))
      ];
      run = still_free free;
      none = scanned.none;
    }

    pub scan_found : page < 1024 → is_free pages page ≡ true → page + 1 - first ≡ n → run_given pages n ≡ Some first
    scan_found below free whole = page_found (run_at pages n) first (record {
      from_on = omega arith;
      within = omega arith;
      passing = row_passes (is_free pages) first n (λ k less. still_free free (first + k) (omega arith) (omega arith));
      before = λ other low lower. scanned.none other lower;
    })

  pub scan_full : (first : ℕ) → length pages.free ≡ 1024 → IsScanned pages n first 1024 → run_given pages n ≡ None
  scan_full first long scanned = no_page_found (run_at pages n) (λ other below. elim (cases_lt other first) [
    | inl before ↦ scanned.none other before
    | inr from ↦ let past : other + (1024 - other) ≡ 1024 = omega arith in
        row_fails (is_free pages) other n (1024 - other) (omega arith) (ap (is_free pages) past ∙ get_or_past pages.free 1024 false (omega arith))
  ])

-- the first pages of the run are set, and every other page is as it was
pub record IsSetTo (value : Bool) (before after : List Bool) (first page : ℕ) : Type 0 where
  pub long : length after ≡ 1024
  pub set : (other : ℕ) → first ≤ other → other < page → get_or after other false ≡ value
  pub same : (other : ℕ) → (first ≤ other → other < page → ⊥) → get_or after other false ≡ get_or before other false

pub set_whole : (value : Bool) (before after : List Bool) (first n page : ℕ) → first + n ≤ page → page ≤ first + n → first + n ≤ 1024
    → IsSetTo value before after first page → after ≡ (with_run value (record { free = before }) first n).free
set_whole value before after first n page low high fit is =
    by_page (λ page. cond (is_in_run n first page) value (get_or before page false)) after is.long (λ other below. by other (is_in_run n first other) refl)
  where
    by : (other : ℕ) (b : Bool) → is_in_run n first other ≡ b → get_or after other false ≡ cond (is_in_run n first other) value (get_or before other false)
    by other true inside = let inside = is_in n first other inside in
        is.set other inside.0 (omega (arith, inside.1)) ∙ sym (cond-true (is_in_run n first other) _ _ (in_run n first other inside))
    by other false outside =
        is.same other (λ from below. true≢false (sym (in_run n first other (from, omega arith)) ∙ outside)) ∙ sym (cond-false (is_in_run n first other) _ _ outside)
