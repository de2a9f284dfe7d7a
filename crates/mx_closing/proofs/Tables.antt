-- A table is that of its known descriptors.
use Rattle.std.proofs.Common.{◌≡◌, ◌≢◌, inl, inr, ℕ, zero, suc, ◌+◌, ◌<◌, ◌≤◌, Bool, true, false, List, [], ◌∷◌, ◌++◌, refl, ap, sym, ◌∙◌, subst, Some, arith, append_assoc}
use Rattle.std.specs.Prelude.{if◌then◌else◌}
use Rattle.std.specs.List.{slice_get}
use Rattle.std.proofs.lemmas.Bool.{cases_eq, cases_lt}
use Rattle.std.proofs.lemmas.List.{append-nil}
use Rattle.mx_core.proofs.Puts.{put_here, put_else}
use Rattle.mx_core.specs.Append.{with_changes}
use Rattle.mx_core.specs.Put.{put}
use Rattle.mx_core.specs.declared.changes.Change.{Change}
use Rattle.mx_rule.specs.Openings.{IsPlaced, ArePlaced}
use Rattle.mx_rule.specs.Shown.{base_of}
use Rattle.mx_rule.specs.declared.layout.Layout.{Layout}
use Rattle.mx_sdw.proofs.SameLaws.{descs_are}
use Rattle.mx_sdw.specs.Admissible.{IsAdmissible}
use Rattle.mx_sdw.specs.Descriptors.{Descriptor, unknown_desc}
use Rattle.mx_sdw.specs.Same.{same_desc}
use Rattle.mx_closing.specs.Opening.{known_desc, known_row, known_rows}

with_both : (xs ys : List Change) (t : ℕ → ℕ → Descriptor)
    → with_changes (xs ++ ys) t ≡ with_changes ys (with_changes xs t)
with_both [] ys t = refl
with_both (c ∷ xs) ys t = with_both xs ys (put t c.process (put (t c.process) c.segno c.desc))

abbrev change : ℕ → ℕ → Descriptor → Change
change p n desc = record { process = p; segno = n; desc = desc }

-- one pair
here : (p n : ℕ) (desc : Descriptor) (t : ℕ → ℕ → Descriptor) → t p n ≡ unknown_desc
    → with_changes (known_desc p n desc) t p n ≡ desc
here p n desc t unknown = go (same_desc desc unknown_desc) refl
  where
    go : (b : Bool) → b ≡ same_desc desc unknown_desc
        → with_changes (if b then [] else change p n desc ∷ []) t p n ≡ desc
    go true e = unknown ∙ sym (descs_are desc unknown_desc (sym e))
    go false e = ap (λ (row : ℕ → Descriptor). row n) (put_here t p (put (t p) n desc)) ∙ put_here (t p) n desc

other_number : (p n : ℕ) (desc : Descriptor) (t : ℕ → ℕ → Descriptor) (k : ℕ) → k ≢ n
    → with_changes (known_desc p n desc) t p k ≡ t p k
other_number p n desc t k not = go (same_desc desc unknown_desc)
  where
    go : (b : Bool) → with_changes (if b then [] else change p n desc ∷ []) t p k ≡ t p k
    go true = refl
    go false = ap (λ (row : ℕ → Descriptor). row k) (put_here t p (put (t p) n desc)) ∙ put_else (t p) n desc k not

other_process : (p n : ℕ) (desc : Descriptor) (t : ℕ → ℕ → Descriptor) (q : ℕ) → q ≢ p
    → with_changes (known_desc p n desc) t q ≡ t q
other_process p n desc t q not = go (same_desc desc unknown_desc)
  where
    go : (b : Bool) → with_changes (if b then [] else change p n desc ∷ []) t q ≡ t q
    go true = refl
    go false = put_else t p (put (t p) n desc) q not

-- one process
module _ (p : ℕ) (row : ℕ → Descriptor) (t : ℕ → ℕ → Descriptor) where
  abbrev with_row : ℕ → ℕ → ℕ → Descriptor
  with_row count = with_changes (known_row p row count) t

  row_more : (n : ℕ) → with_row (suc n) ≡ with_changes (known_desc p n (row n)) (with_row n)
  row_more n = with_both (known_row p row n) (known_desc p n (row n)) t

  row_past : ((k : ℕ) → t p k ≡ unknown_desc) → (count k : ℕ) → count ≤ k → with_row count p k ≡ unknown_desc
  row_past unknown zero k l = unknown k
  row_past unknown (suc n) k l =
      ap (λ (table : ℕ → ℕ → Descriptor). table p k) (row_more n)
      ∙ other_number p n (row n) (with_row n) k (λ e. absurd (omega (arith, l, e)))
      ∙ row_past unknown n k (omega (arith, l))

  row_has : ((k : ℕ) → t p k ≡ unknown_desc) → (count k : ℕ) → k < count → with_row count p k ≡ row k
  row_has unknown zero k l = absurd (omega (arith, l))
  row_has unknown (suc n) k l =
      ap (λ (table : ℕ → ℕ → Descriptor). table p k) (row_more n)
      ∙ (elim (cases_eq k n) [
        | inl e ↦
            ap (λ (m : ℕ). with_changes (known_desc p n (row n)) (with_row n) p m) e
            ∙ here p n (row n) (with_row n) (row_past unknown n n (omega arith))
            ∙ ap row (sym e)
        | inr not ↦
            other_number p n (row n) (with_row n) k not
            ∙ row_has unknown n k (below k n l not)
      ])
    where
      below : (k n : ℕ) → k < suc n → k ≢ n → k < n
      below k n l not = elim (cases_lt k n) [
        | inl less ↦ less
        | inr more ↦ absurd (not (omega (arith, l, more)))
      ]

  row_other : (q : ℕ) → q ≢ p → (count : ℕ) → with_row count q ≡ t q
  row_other q not zero = refl
  row_other q not (suc n) =
      ap (λ (table : ℕ → ℕ → Descriptor). table q) (row_more n)
      ∙ other_process p n (row n) (with_row n) q not
      ∙ row_other q not n

-- all processes
module _ (numbers : ℕ) (table : ℕ → ℕ → Descriptor) where
  abbrev with_rows : ℕ → ℕ → ℕ → Descriptor
  with_rows count = base_of (known_rows numbers table count)

  rows_more : (p : ℕ)
      → with_rows (suc p) ≡ with_changes (known_row (suc p) (table (suc p)) numbers) (with_rows p)
  rows_more p = with_both (known_rows numbers table p) (known_row (suc p) (table (suc p)) numbers)
      (λ q n. unknown_desc)

  rows_past : (count p : ℕ) → count < p → (n : ℕ) → with_rows count p n ≡ unknown_desc
  rows_past zero p l n = refl
  rows_past (suc q) p l n =
      ap (λ (t : ℕ → ℕ → Descriptor). t p n) (rows_more q)
      ∙ ap (λ (r : ℕ → Descriptor). r n)
      (row_other (suc q) (table (suc q)) (with_rows q) p (λ e. absurd (omega (arith, l, e))) numbers)
      ∙ rows_past q p (omega (arith, l)) n

  -- the process that came last, and those before it
  last_row : (q n : ℕ) → with_rows (suc q) (suc q) n
      ≡ with_changes (known_row (suc q) (table (suc q)) numbers) (with_rows q) (suc q) n
  last_row q n = ap (λ (t : ℕ → ℕ → Descriptor). t (suc q) n) (rows_more q)

  former_row : (q p n : ℕ) → p ≢ suc q → with_rows (suc q) p n ≡ with_rows q p n
  former_row q p n not =
      ap (λ (t : ℕ → ℕ → Descriptor). t p n) (rows_more q)
      ∙ ap (λ (r : ℕ → Descriptor). r n) (row_other (suc q) (table (suc q)) (with_rows q) p not numbers)

  before : (p q : ℕ) → p ≤ suc q → p ≢ suc q → p ≤ q
  before p q l not = elim (cases_lt q p) [
    | inl more ↦ absurd (not (omega (arith, l, more)))
    | inr less ↦ less
  ]

  pub rows_have : (count p n : ℕ) → 1 ≤ p → p ≤ count → n < numbers → with_rows count p n ≡ table p n
  rows_have zero p n some most within = absurd (omega (arith, some, most))
  rows_have (suc q) p n some most within = elim (cases_eq p (suc q)) [
    | inl e ↦
        ap (λ (o : ℕ). with_rows (suc q) o n) e
        ∙ last_row q n
        ∙ row_has (suc q) (table (suc q)) (with_rows q) (rows_past q (suc q) (omega arith)) numbers n within
        ∙ ap (λ (o : ℕ). table o n) (sym e)
    | inr not ↦ former_row q p n not ∙ rows_have q p n some (before p q most not) within
  ]

  pub rows_beyond : (count p n : ℕ) → numbers ≤ n → with_rows count p n ≡ unknown_desc
  rows_beyond zero p n beyond = refl
  rows_beyond (suc q) p n beyond = elim (cases_eq p (suc q)) [
    | inl e ↦
        ap (λ (o : ℕ). with_rows (suc q) o n) e
        ∙ last_row q n
        ∙ row_past (suc q) (table (suc q)) (with_rows q) (rows_past q (suc q) (omega arith)) numbers n beyond
    | inr not ↦ former_row q p n not ∙ rows_beyond q p n beyond
  ]

-- the pairs are the layout's, and the descriptors may stand in words
placed_both : (y : Layout) (xs ys : List Change) → ArePlaced y xs → ArePlaced y ys → ArePlaced y (xs ++ ys)
placed_both y [] ys a b i c e = b i c e
placed_both y (x ∷ xs) ys a b zero c e = a 0 c e
placed_both y (x ∷ xs) ys a b (suc i) c e = placed_both y xs ys (λ j d f. a (suc j) d f) b i c e

placed_none : (y : Layout) → ArePlaced y []
placed_none y i c e = absurd (none i c e)
  where
    none : (i : ℕ) (c : Change) → slice_get {X = Change} [] i ≡ Some c → ⊥
    none i c e = cc

placed_one : (y : Layout) (c : Change) → IsPlaced y c → ArePlaced y (c ∷ [])
placed_one y c is zero d e = subst (IsPlaced y) (same e) is
  where
    same : Some c ≡ Some d → c ≡ d
    same e = cc
placed_one y c is (suc i) d e = placed_none y i d e

placed_desc : (y : Layout) (p n : ℕ) (desc : Descriptor) → 1 ≤ p → p ≤ y.processes → n < y.numbers
    → IsAdmissible desc → ArePlaced y (known_desc p n desc)
placed_desc y p n desc low high number admissible = go (same_desc desc unknown_desc)
  where
    go : (b : Bool) → ArePlaced y (if b then [] else change p n desc ∷ [])
    go true = placed_none y
    go false = placed_one y (change p n desc)
        (record { low = low; high = high; number = number; desc = admissible })

placed_row : (y : Layout) (p : ℕ) (row : ℕ → Descriptor) → 1 ≤ p → p ≤ y.processes → (count : ℕ)
    → count ≤ y.numbers → ((n : ℕ) → n < count → IsAdmissible (row n)) → ArePlaced y (known_row p row count)
placed_row y p row low high zero most admissible = placed_none y
placed_row y p row low high (suc n) most admissible = placed_both y (known_row p row n) (known_desc p n (row n))
    (placed_row y p row low high n (omega (arith, most)) (λ k l. admissible k (omega (arith, l))))
    (placed_desc y p n (row n) low high (omega (arith, most)) (admissible n (omega arith)))

pub placed_rows : (y : Layout) (table : ℕ → ℕ → Descriptor) → (count : ℕ) → count ≤ y.processes
    → ((p n : ℕ) → 1 ≤ p → p ≤ count → n < y.numbers → IsAdmissible (table p n))
    → ArePlaced y (known_rows y.numbers table count)
placed_rows y table zero most admissible = placed_none y
placed_rows y table (suc p) most admissible =
    placed_both y (known_rows y.numbers table p) (known_row (suc p) (table (suc p)) y.numbers)
    (placed_rows y table p (omega (arith, most)) (λ q n a b c. admissible q n a (omega (arith, b)) c))
    (placed_row y (suc p) (table (suc p)) (omega arith) most y.numbers (omega arith)
    (λ n l. admissible (suc p) n (omega arith) (omega arith) l))

-- the list with one number more
next : (n : ℕ) → suc n ≡ n + 1
next n = omega arith

told : (p n : ℕ) (desc : Descriptor) (b : Bool) → same_desc desc unknown_desc ≡ b
    → known_desc p n desc ≡ (if b then [] else change p n desc ∷ [])
told p n desc b e = ap (λ (t : Bool). if t then [] else change p n desc ∷ []) e

row_longer : (all now more : List Change) (p n : ℕ) (row : ℕ → Descriptor) → now ≡ all ++ known_row p row n
    → known_desc p n (row n) ≡ more → now ++ more ≡ all ++ known_row p row (n + 1)
row_longer all now more p n row is here =
    ap (λ (l : List Change). l ++ more) is
    ∙ append_assoc all (known_row p row n) more
    ∙ ap (λ (l : List Change). all ++ (known_row p row n ++ l)) (sym here)
    ∙ ap (λ (m : ℕ). all ++ known_row p row m) (next n)

pub row_added : (all now now' : List Change) (p n : ℕ) (row : ℕ → Descriptor) (desc unknown : Descriptor)
    (test : Bool) → now ≡ all ++ known_row p row n → desc ≡ row n → unknown ≡ unknown_desc
    → test ≡ same_desc desc unknown → test ≡ false → now' ≡ now ++ change p n desc ∷ []
    → now' ≡ all ++ known_row p row (n + 1)
row_added all now now' p n row desc unknown test is here none tested other more =
    more
    ∙ row_longer all now (change p n desc ∷ []) p n row is
    (ap (known_desc p n) (sym here)
    ∙ told p n desc false (ap (same_desc desc) (sym none) ∙ sym tested ∙ other))

pub row_skipped : (all now : List Change) (p n : ℕ) (row : ℕ → Descriptor) (desc unknown : Descriptor)
    (test : Bool) → now ≡ all ++ known_row p row n → desc ≡ row n → unknown ≡ unknown_desc
    → test ≡ same_desc desc unknown → test ≡ true → now ≡ all ++ known_row p row (n + 1)
row_skipped all now p n row desc unknown test is here none tested other =
    sym (append-nil now)
    ∙ row_longer all now [] p n row is
    (ap (known_desc p n) (sym here)
    ∙ told p n desc true (ap (same_desc desc) (sym none) ∙ sym tested ∙ other))

pub rows_longer : (numbers : ℕ) (table : ℕ → ℕ → Descriptor) (i p : ℕ) (now now' : List Change)
    → now ≡ known_rows numbers table i → p ≡ i + 1 → now' ≡ now ++ known_row p (table p) numbers
    → now' ≡ known_rows numbers table (i + 1)
rows_longer numbers table i p now now' is one more =
    more
    ∙ ap (λ (l : List Change). l ++ known_row p (table p) numbers) is
    ∙ ap (λ (q : ℕ). known_rows numbers table i ++ known_row q (table q) numbers) (one ∙ sym (next i))
    ∙ ap (known_rows numbers table) (next i)

-- what holds below a number, and at it, holds below the next
pub below_more : (P : ℕ → Type 0) (n : ℕ) → ((k : ℕ) → k < n → P k) → P n → (k : ℕ) → k < n + 1 → P k
below_more P n all here k l = elim (cases_eq k n) [
  | inl e ↦ subst P (sym e) here
  | inr not ↦ all k (elim (cases_lt k n) [
    | inl less ↦ less
    | inr more ↦ absurd (not (omega (arith, l, more)))
  ])
]

pub rows_admissible : (numbers : ℕ) (table : ℕ → ℕ → Descriptor) (i : ℕ)
    → ((p n : ℕ) → 1 ≤ p → p ≤ i → n < numbers → IsAdmissible (table p n))
    → ((n : ℕ) → n < numbers → IsAdmissible (table (i + 1) n))
    → (p n : ℕ) → 1 ≤ p → p ≤ i + 1 → n < numbers → IsAdmissible (table p n)
rows_admissible numbers table i before last p n some most within = elim (cases_eq p (i + 1)) [
  | inl e ↦ subst (λ (q : ℕ). IsAdmissible (table q n)) (sym e) (last n within)
  | inr not ↦ before p n some (elim (cases_lt i p) [
    | inl more ↦ absurd (not (omega (arith, most, more)))
    | inr less ↦ less
  ]) within
]
