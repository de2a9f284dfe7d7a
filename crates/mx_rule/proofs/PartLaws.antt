-- Each part has a word of its own.
use Rattle.std.proofs.Common.{◌≡◌, inl, inr, ℕ, zero, suc, ◌+◌, ◌*◌, ◌-◌, ◌<◌, ◌≤◌, refl, ap, sym, ◌∙◌, subst, arith}
use Rattle.std.proofs.lemmas.Bool.{cases_lt, cases_eq}
use Rattle.mx_rule.specs.Layout.{IsLayout, Layout}
use Rattle.mx_rule.specs.Parts.{Answered, CellAt, ConnectWord, Count, DescriptorAt, Flag, IsPart, Part, number_in, words_in}

-- by the number of processes, how many descriptor words there are, and which one each pair has
module _ (P N B : ℕ) (d : ℕ → ℕ → ℕ)
    (under : (p n : ℕ) → (1 ≤ p) × (p ≤ P) × (n < N) → d p n < B)
    (once : (p n q m : ℕ) → (1 ≤ p) × (p ≤ P) × (n < N) → (1 ≤ q) × (q ≤ P) × (m < N) → d p n ≡ d q m
    → (p ≡ q) × (n ≡ m)) where
  abbrev number_by : Part → ℕ
  number_by Count = 0
  number_by Answered = 1
  number_by (Flag p) = 1 + p
  number_by (ConnectWord p) = 1 + P + p
  number_by (DescriptorAt p n) = 2 + 2 * P + d p n
  number_by (CellAt c) = 2 + 2 * P + B + c

  apart_by : (x z : Part) → IsPart P N x → IsPart P N z → number_by x ≡ number_by z → x ≡ z
  apart_by Count Count h k e = refl
  apart_by Count Answered h k e = absurd (omega arith)
  apart_by Count (Flag p') h k e = absurd (let k0 = k.0 in let k1 = k.1 in omega arith)
  apart_by Count (ConnectWord p') h k e = absurd (let k0 = k.0 in let k1 = k.1 in omega arith)
  apart_by Count (DescriptorAt p' n') h k e = absurd (let k0 = under p' n' k in omega arith)
  apart_by Count (CellAt c') h k e = absurd (omega arith)
  apart_by Answered Count h k e = absurd (omega arith)
  apart_by Answered Answered h k e = refl
  apart_by Answered (Flag p') h k e = absurd (let k0 = k.0 in let k1 = k.1 in omega arith)
  apart_by Answered (ConnectWord p') h k e = absurd (let k0 = k.0 in let k1 = k.1 in omega arith)
  apart_by Answered (DescriptorAt p' n') h k e = absurd (let k0 = under p' n' k in omega arith)
  apart_by Answered (CellAt c') h k e = absurd (omega arith)
  apart_by (Flag p) Count h k e = absurd (let h0 = h.0 in let h1 = h.1 in omega arith)
  apart_by (Flag p) Answered h k e = absurd (let h0 = h.0 in let h1 = h.1 in omega arith)
  apart_by (Flag p) (Flag p') h k e = ap Flag (omega arith)
  apart_by (Flag p) (ConnectWord p') h k e = absurd
      (let h0 = h.0 in let h1 = h.1 in let k0 = k.0 in let k1 = k.1 in omega arith)
  apart_by (Flag p) (DescriptorAt p' n') h k e =
      absurd (let h0 = h.0 in let h1 = h.1 in let k0 = under p' n' k in omega arith)
  apart_by (Flag p) (CellAt c') h k e = absurd (let h0 = h.0 in let h1 = h.1 in omega arith)
  apart_by (ConnectWord p) Count h k e = absurd (let h0 = h.0 in let h1 = h.1 in omega arith)
  apart_by (ConnectWord p) Answered h k e = absurd (let h0 = h.0 in let h1 = h.1 in omega arith)
  apart_by (ConnectWord p) (Flag p') h k e = absurd
      (let h0 = h.0 in let h1 = h.1 in let k0 = k.0 in let k1 = k.1 in omega arith)
  apart_by (ConnectWord p) (ConnectWord p') h k e = ap ConnectWord (omega arith)
  apart_by (ConnectWord p) (DescriptorAt p' n') h k e =
      absurd (let h0 = h.0 in let h1 = h.1 in let k0 = under p' n' k in omega arith)
  apart_by (ConnectWord p) (CellAt c') h k e = absurd (let h0 = h.0 in let h1 = h.1 in omega arith)
  apart_by (DescriptorAt p n) Count h k e = absurd (let h0 = under p n h in omega arith)
  apart_by (DescriptorAt p n) Answered h k e = absurd (let h0 = under p n h in omega arith)
  apart_by (DescriptorAt p n) (Flag p') h k e =
      absurd (let h0 = under p n h in let k0 = k.0 in let k1 = k.1 in omega arith)
  apart_by (DescriptorAt p n) (ConnectWord p') h k e =
      absurd (let h0 = under p n h in let k0 = k.0 in let k1 = k.1 in omega arith)
  apart_by (DescriptorAt p n) (DescriptorAt p' n') h k e = let s : d p n ≡ d p' n' = omega arith in let both =
      once p n p' n' h k s in λ i. DescriptorAt (both.0 i) (both.1 i)
  apart_by (DescriptorAt p n) (CellAt c') h k e = absurd (let h0 = under p n h in omega arith)
  apart_by (CellAt c) Count h k e = absurd (omega arith)
  apart_by (CellAt c) Answered h k e = absurd (omega arith)
  apart_by (CellAt c) (Flag p') h k e = absurd (let k0 = k.0 in let k1 = k.1 in omega arith)
  apart_by (CellAt c) (ConnectWord p') h k e = absurd (let k0 = k.0 in let k1 = k.1 in omega arith)
  apart_by (CellAt c) (DescriptorAt p' n') h k e = absurd (let k0 = under p' n' k in omega arith)
  apart_by (CellAt c) (CellAt c') h k e = ap CellAt (omega arith)

  within_by : (x : Part) → IsPart P N x → number_by x < 2 + 2 * P + B + 65536
  within_by Count h = omega arith
  within_by Answered h = omega arith
  within_by (Flag p) h = let most = h.1 in omega arith
  within_by (ConnectWord p) h = let most = h.1 in omega arith
  within_by (DescriptorAt p n) h = let u = under p n h in omega arith
  within_by (CellAt c) h = omega arith

grows : (N a b : ℕ) → a ≤ b → N * a ≤ N * b
grows zero a b l = omega arith
grows (suc N) a b l = let rest = grows N a b l in grind arith

-- the descriptor words of a process lie before those of the next
row_under : (N p n q : ℕ) → 1 ≤ p → p < q → n < N → N * (p - 1) + n < N * (q - 1)
row_under N p n q low less small =
    let a = grows N p (q - 1) (omega arith) in
    let b = one_row N p low in omega arith
  where
    one_row : (N p : ℕ) → 1 ≤ p → N * p ≡ N * (p - 1) + N
    one_row N zero low = absurd (omega arith)
    one_row N (suc p) low = grind arith

pub desc_under : (P N p n : ℕ) → (1 ≤ p) × (p ≤ P) × (n < N) → N * (p - 1) + n < N * P
desc_under P N p n is =
    let low = is.0 in
    let high = is.1 in
    let a = row_under N p n (P + 1) is.0 (omega arith) is.2 in
    subst (λ (k : ℕ). N * (p - 1) + n < N * k) (less P) a
  where
    less : (P : ℕ) → P + 1 - 1 ≡ P
    less P = omega arith

desc_once : (P N p n q m : ℕ) → (1 ≤ p) × (p ≤ P) × (n < N) → (1 ≤ q) × (q ≤ P) × (m < N)
    → N * (p - 1) + n ≡ N * (q - 1) + m → (p ≡ q) × (n ≡ m)
desc_once P N p n q m h k e = elim (cases_eq p q) [
  | inl same ↦ (same, rest same)
  | inr apart ↦ elim (cases_lt p q) [
    | inl l ↦ let a = row_under N p n q h.0 l h.2 in absurd (omega arith)
    | inr l ↦ let a = row_under N q m p k.0 (omega arith) k.2 in absurd (omega arith)
  ]
]
  where
    rest : p ≡ q → n ≡ m
    rest same = let f = ap (λ (x : ℕ). N * (x - 1)) same in omega arith

pub numbers_apart : (y : Layout) (P N : ℕ) → IsLayout y P N → (x z : Part) → IsPart P N x → IsPart P N z
    → number_in y x ≡ number_in y z → x ≡ z
numbers_apart y P N lay x z h k e =
    apart_by y.processes y.numbers (y.numbers * y.processes) (λ p n. y.numbers * (p - 1) + n)
    (desc_under y.processes y.numbers) (desc_once y.processes y.numbers) x z
    (subst (λ (t : ℕ × ℕ). IsPart t.0 t.1 x) (λ i. (lay.processes_is i, lay.numbers_is i)) h)
    (subst (λ (t : ℕ × ℕ). IsPart t.0 t.1 z) (λ i. (lay.processes_is i, lay.numbers_is i)) k)
    (sym (same x) ∙ e ∙ same z)
  where
    same : (x : Part) → number_in y x
        ≡ number_by y.processes y.numbers (y.numbers * y.processes) (λ p n. y.numbers * (p - 1) + n)
        (desc_under y.processes y.numbers) (desc_once y.processes y.numbers) x
    same Count = refl
    same Answered = refl
    same (Flag p) = refl
    same (ConnectWord p) = refl
    same (DescriptorAt p n) = refl
    same (CellAt c) = refl

go : (y : Layout) (x : Part) → IsPart y.processes y.numbers x
    → number_by y.processes y.numbers (y.numbers * y.processes) (λ p n. y.numbers * (p - 1) + n)
    (desc_under y.processes y.numbers) (desc_once y.processes y.numbers) x < words_in y
go y x h =
    within_by y.processes y.numbers (y.numbers * y.processes) (λ p n. y.numbers * (p - 1) + n)
    (desc_under y.processes y.numbers) (desc_once y.processes y.numbers) x h

pub part_within : (y : Layout) (x : Part) → IsPart y.processes y.numbers x → number_in y x < words_in y
part_within y Count h = go y Count h
part_within y Answered h = go y Answered h
part_within y (Flag p) h = go y (Flag p) h
part_within y (ConnectWord p) h = go y (ConnectWord p) h
part_within y (DescriptorAt p n) h = go y (DescriptorAt p n) h
part_within y (CellAt c) h = go y (CellAt c) h
