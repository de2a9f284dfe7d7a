-- The uses of pages, counted from the beginning and from a start on. What the pages were used as at the start has there the
-- number 0; each later use has the same number.
use Rattle.std.proofs.Common.{◌≡◌, ◌≢◌, inl, inr, ℕ, zero, suc, ◌<◌, ◌≤◌, Bool, true, false, refl, ap, sym, ◌∙◌, subst, arith}
use Rattle.std.specs.Prelude.{nat_le, ◌&&◌}
use Rattle.std.proofs.lemmas.Bool.{cases_eq, le-leb, lt-leb}
use Rattle.mx_core.specs.Pages.{page_of, use_at}
use Rattle.mx_core.specs.Put.{pick, put}
use Rattle.mx_core.proofs.Puts.{put_here, put_else}
use Rattle.mx_reads.specs.Deeds.{CellUse}

-- 0 and another number, each for the other
abbrev pub swapped : ℕ → ℕ → ℕ
swapped base = put (put (λ number. number) base 0) 0 base

swapped_zero : (base : ℕ) → swapped base 0 ≡ base
swapped_zero base = put_here (put (λ number. number) base 0) 0 base

pub swapped_base : (base : ℕ) → swapped base base ≡ 0
swapped_base base = elim (cases_eq base 0) [
  | inl none ↦ ap (λ (n : ℕ). swapped base n) none ∙ swapped_zero base ∙ none
  | inr some ↦ put_else (put (λ number. number) base 0) 0 base base some ∙ put_here (λ (n : ℕ). n) base 0
]

pub swapped_other : (base number : ℕ) → number ≢ 0 → number ≢ base → swapped base number ≡ number
swapped_other base number some other =
    put_else (put (λ n. n) base 0) 0 base number some ∙ put_else (λ (n : ℕ). n) base 0 number other

-- twice is as before
swapped_back : (base number : ℕ) → swapped base (swapped base number) ≡ number
swapped_back base number = elim (cases_eq number 0) [
  | inl none ↦ ap (λ (n : ℕ). swapped base (swapped base n)) none
      ∙ ap (swapped base) (swapped_zero base) ∙ swapped_base base ∙ sym none
  | inr some ↦ elim (cases_eq number base) [
    | inl here ↦ ap (λ (n : ℕ). swapped base (swapped base n)) here
        ∙ ap (swapped base) (swapped_base base) ∙ swapped_zero base ∙ sym here
    | inr other ↦ ap (swapped base) (swapped_other base number some other) ∙ swapped_other base number some other
  ]
]

swapped_apart : (base a b : ℕ) → swapped base a ≡ swapped base b → a ≡ b
swapped_apart base a b same = sym (swapped_back base a) ∙ ap (swapped base) same ∙ swapped_back base b

-- a cell in its use, where the pages are used as this says at the start
abbrev pub in_use : (ℕ → ℕ) → CellUse → CellUse
in_use base c = record { cell = c.cell; since = swapped (base (page_of c.cell)) c.since }

pub uses_apart : (base : ℕ → ℕ) (a b : CellUse) → in_use base a ≡ in_use base b → a ≡ b
uses_apart base a b e =
    let cell : a.cell ≡ b.cell = ap (λ (c : CellUse). c.cell) e in
    let since : swapped (base (page_of a.cell)) a.since ≡ swapped (base (page_of b.cell)) b.since =
    ap (λ (c : CellUse). c.since) e in
    let same : a.since ≡ b.since = swapped_apart (base (page_of b.cell)) a.since b.since
    (subst (λ (c : ℕ). swapped (base (page_of c)) a.since ≡ swapped (base (page_of b.cell)) b.since) cell since) in
    λ i. record { cell = cell i; since = same i }

-- before the start nothing counts
none_before : (start : ℕ) (world : ℕ → ℕ → Bool) (page q : ℕ) → q ≤ start → use_at start world page q ≡ 0
none_before start world page zero low = refl
none_before start world page (suc q) low =
    ap (λ (b : Bool). pick (b && world (suc q) page) (suc q) (use_at start world page q)) (past q start (omega arith))
    ∙ none_before start world page q (omega arith)
  where
    past : (q start : ℕ) → q < start → nat_le start q ≡ false
    past q start l = lt-leb start q l

-- a use is an entry up to the point
use_low : (start : ℕ) (given : ℕ → ℕ → Bool) (page q : ℕ) → use_at start given page q ≤ q
use_low start given page zero = omega arith
use_low start given page (suc q) = later (nat_le start q && given (suc q) page) q (use_at start given page q)
    (use_low start given page q)
  where
    later : (gave : Bool) (q before : ℕ) → before ≤ q → pick gave (suc q) before ≤ suc q
    later true q before low = omega arith
    later false q before low = omega arith

-- an entry that gives the page out begins a later use, whoever counts
step : (start base q : ℕ) (gave : Bool) (mine other : ℕ) → base ≤ start → start ≤ q → swapped base mine ≡ other
    → swapped base (pick gave (suc q) mine) ≡ pick gave (suc q) other
step start base q true mine other low from same = swapped_other base (suc q) some (λ e. absurd (omega arith))
  where
    some : suc q ≢ 0
    some e = cc
step start base q false mine other low from same = same

counted : (first : ℕ) (gave : ℕ → ℕ → Bool) (page q : ℕ) → first ≤ q
    → use_at first gave page (suc q) ≡ pick (gave (suc q) page) (suc q) (use_at first gave page q)
counted first gave page q from =
    ap (λ (b : Bool). pick (b && gave (suc q) page) (suc q) (use_at first gave page q)) (le-leb first q from)

module _ (start long page : ℕ) (world given : ℕ → ℕ → Bool)
    (same : (q : ℕ) → start ≤ q → q < long → world (suc q) page ≡ given (suc q) page) where
  abbrev base : ℕ
  base = use_at 0 given page start

  pub swapped_use : (q : ℕ) → start ≤ q → q ≤ long → swapped base (use_at 0 given page q) ≡ use_at start world page q
  swapped_use zero from to =
      let here : start ≡ 0 = omega arith in
      ap (λ (s : ℕ). swapped (use_at 0 given page s) 0) here
  swapped_use (suc q) from to = elim (cases_eq start (suc q)) [
    | inl here ↦
        ap (λ (s : ℕ). swapped base (use_at 0 given page s)) (sym here) ∙ swapped_base base
        ∙ sym (none_before start world page (suc q) (omega arith))
    | inr apart ↦
        ap (swapped base) (counted 0 given page q (omega arith))
        ∙ step start base q (given (suc q) page) (use_at 0 given page q) (use_at start world page q)
        (use_low 0 given page start) (omega arith) (swapped_use q (omega arith) (omega arith))
        ∙ ap (λ (b : Bool). pick b (suc q) (use_at start world page q)) (sym (same q (omega arith) (omega arith)))
        ∙ sym (counted start world page q (omega arith))
  ]
