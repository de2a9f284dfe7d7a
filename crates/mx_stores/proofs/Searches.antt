-- The first and the last number below a bound that pass a test.
use Rattle.std.proofs.Common.{◌≡◌, ◌⊎◌, inl, inr, ℕ, zero, suc, ◌<◌, Bool, true, false, if◌then◌else◌, Option, Some, None, refl, ap, sym, ◌∙◌, subst, arith}
use Rattle.std.proofs.lemmas.Bool.{cases_Bool, cases_eq}
use Rattle.mx_stores.specs.Choices.{or_next, first_below, last_below, kept}
use Rattle.mx_stores.proofs.SightedLaws.{none_some, some_same, picks, passes}

pub record IsFound (test : ℕ → Bool) (n k : ℕ) : Type 0 where
  pub below : k < n
  pub passes : test k ≡ true

pub clash : (b : Bool) {A : Type 0} → b ≡ true → b ≡ false → A
clash true e f = absurd cc
clash false e f = absurd cc

pub first_none : (test : ℕ → Bool) (n : ℕ) → ((i : ℕ) → i < n → test i ≡ true → ⊥) → first_below test n ≡ None
first_none test zero none = refl
first_none test (suc n) none = elim (cases_Bool (test n)) [
  | inl e ↦ absurd (none n (omega arith) e)
  | inr e ↦ ap (λ (o : Option ℕ). or_next o (if test n then Some n else None)) (first_none test n (λ i l. none i (omega arith)))
      ∙ passes (test n) (Some n) None e
]

pub first_is : (test : ℕ → Bool) (n k : ℕ) → k < n → test k ≡ true → ((i : ℕ) → i < k → test i ≡ true → ⊥)
    → first_below test n ≡ Some k
first_is test zero k l e none = absurd (omega arith)
first_is test (suc n) k l e none = elim (cases_eq k n) [
  | inl same ↦
      ap (λ (o : Option ℕ). or_next o (if test n then Some n else None))
      (first_none test n (λ i b. none i (omega arith)))
      ∙ picks (test n) (Some n) None (subst (λ (m : ℕ). test m ≡ true) same e)
      ∙ ap (λ (m : ℕ). Some m) (sym same)
  | inr other ↦ ap (λ (o : Option ℕ). or_next o (if test n then Some n else None))
      (first_is test n k (omega arith) e none)
]

pub record IsFirstFound (test : ℕ → Bool) (n k : ℕ) : Type 0 where
  pub below : k < n
  pub has : test k ≡ true
  pub none : (i : ℕ) → i < k → test i ≡ true → ⊥

first_search : (test : ℕ → Bool) (n : ℕ)
    → ((first_below test n ≡ None) × ((i : ℕ) → i < n → test i ≡ true → ⊥)) ⊎ ((k : ℕ) × ((first_below test n ≡ Some k) × IsFirstFound test n k))
first_search test zero = inl (refl, λ i l. absurd (omega arith))
first_search test (suc n) = elim (first_search test n) [
  | inr found ↦
      let f = found.1.1 in
      let below = f.below in
      inr (
        found.0,
        (
          ap (λ (o : Option ℕ). or_next o (if test n then Some n else None)) found.1.0,
          record { below = omega arith; has = f.has; none = f.none },
        ),
      )
  | inl none ↦ elim (cases_Bool (test n)) [
    | inl e ↦ inr (
      n,
      (
        ap (λ (o : Option ℕ). or_next o (if test n then Some n else None)) none.0
            ∙ picks (test n) (Some n) None e,
        record { below = omega arith; has = e; none = none.1 },
      ),
    )
    | inr e ↦ inl (
      ap (λ (o : Option ℕ). or_next o (if test n then Some n else None)) none.0
          ∙ passes (test n) (Some n) None e,
      λ i l t. elim (cases_eq i n) [
        | inl same ↦ clash (test n) (subst (λ (m : ℕ). test m ≡ true) same t) e
        | inr other ↦ none.1 i (omega arith) t
      ],
    )
  ]
]

pub first_told : (test : ℕ → Bool) (n k : ℕ) → first_below test n ≡ Some k → IsFirstFound test n k
first_told test n k e = elim (first_search test n) [
  | inl none ↦ none_some k (sym none.0 ∙ e)
  | inr found ↦ subst (λ (m : ℕ). IsFirstFound test n m) (some_same found.0 k (sym found.1.0 ∙ e)) found.1.1
]

pub last_is : (test : ℕ → Bool) (n k : ℕ) → k < n → test k ≡ true → ((i : ℕ) → k < i → i < n → test i ≡ true → ⊥)
    → last_below test n ≡ Some k
last_is test zero k l e none = absurd (omega arith)
last_is test (suc n) k l e none = elim (cases_eq k n) [
  | inl same ↦ picks (test n) (Some n) (last_below test n) (subst (λ (m : ℕ). test m ≡ true) same e)
      ∙ ap (λ (m : ℕ). Some m) (sym same)
  | inr other ↦ elim (cases_Bool (test n)) [
    | inl here ↦ absurd (none n (omega arith) (omega arith) here)
    | inr here ↦ passes (test n) (Some n) (last_below test n) here
        ∙ last_is test n k (omega arith) e (λ i a b. none i a (omega arith))
  ]
]

pub record IsLastFound (test : ℕ → Bool) (n k : ℕ) : Type 0 where
  pub below : k < n
  pub has : test k ≡ true
  pub none : (i : ℕ) → k < i → i < n → test i ≡ true → ⊥

pub last_told : (test : ℕ → Bool) (n k : ℕ) → last_below test n ≡ Some k → IsLastFound test n k
last_told test zero k e = none_some k e
last_told test (suc n) k e = elim (cases_Bool (test n)) [
  | inl here ↦
      let same : n ≡ k = some_same n k (sym (picks (test n) (Some n) (last_below test n) here) ∙ e) in record {
        below = omega arith;
        has = subst (λ (m : ℕ). test m ≡ true) same here;
        none = λ i a b t. absurd (omega arith);
      }
  | inr here ↦
      let f : IsLastFound test n k = last_told test n k (sym (passes (test n) (Some n) (last_below test n) here) ∙ e) in
      let below = f.below in record {
        below = omega arith;
        has = f.has;
        none = λ i a b t. elim (cases_eq i n) [
          | inl same ↦ clash (test n) (subst (λ (m : ℕ). test m ≡ true) same t) here
          | inr other ↦ f.none i a (omega arith) t
        ];
      }
]

pub kept_is : (test : ℕ → Bool) (o : Option ℕ) (k : ℕ) → o ≡ Some k → test k ≡ true → kept test o ≡ Some k
kept_is test o k e t = ap (λ (p : Option ℕ). kept test p) e ∙ picks (test k) (Some k) None t

pub kept_told : (test : ℕ → Bool) (o : Option ℕ) (k : ℕ) → kept test o ≡ Some k → (o ≡ Some k) × (test k ≡ true)
kept_told test None k e = none_some k e
kept_told test (Some n) k e = elim (cases_Bool (test n)) [
  | inl t ↦
      let same : n ≡ k = some_same n k (sym (picks (test n) (Some n) None t) ∙ e) in
      (ap (λ (m : ℕ). Some m) same, subst (λ (m : ℕ). test m ≡ true) same t)
  | inr t ↦ none_some k (sym (passes (test n) (Some n) None t) ∙ e)
]

pub kept_not : (test : ℕ → Bool) (o : Option ℕ) (k : ℕ) → o ≡ Some k → test k ≡ false → kept test o ≡ None
kept_not test o k e t = ap (λ (p : Option ℕ). kept test p) e ∙ passes (test k) (Some k) None t

pub last_none : (test : ℕ → Bool) (n : ℕ) → ((i : ℕ) → i < n → test i ≡ true → ⊥) → last_below test n ≡ None
last_none test zero none = refl
last_none test (suc n) none = elim (cases_Bool (test n)) [
  | inl e ↦ absurd (none n (omega arith) e)
  | inr e ↦ passes (test n) (Some n) (last_below test n) e ∙ last_none test n (λ i l. none i (omega arith))
]
