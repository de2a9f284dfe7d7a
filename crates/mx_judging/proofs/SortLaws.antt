-- Two lists that are in order by a number, and have the same elements at each number in the same order, are one list.
use Rattle.std.proofs.Common.{◌≡◌, inl, inr, ℕ, suc, ◌<◌, ◌≤◌, Bool, true, false, cond, not, ◌&&◌, List, [], ◌∷◌, length, get_or, filter, refl, ap, sym, ◌∙◌, arith, le_refl, eq-eqb, ne_eqb, ◌==◌, is_lt, nat_cmp, ltb, lt-ltb, le-ltb, Less, Equal, Greater}
use Rattle.std.proofs.lemmas.Bool.{cases_lt}
use Rattle.std.proofs.lemmas.List.Elements.{filter_agree}
use Rattle.std.specs.List.Sorted.{IsNonDecreasingBy, IsStableByKey, ties}

less_is : (a b : ℕ) → is_lt (nat_cmp a b) ≡ ltb a b
less_is a b = by (ltb a b) (a == b)
  where
    by : (t u : Bool) → is_lt (cond t Less (cond u Equal Greater)) ≡ t
    by true u = refl
    by false true = refl
    by false false = refl

module _ {X : Type 0} (p : X → Bool) where
  pub filter_yes : (x : X) (xs : List X) → p x ≡ true → filter p (x ∷ xs) ≡ x ∷ filter p xs
  filter_yes x xs e = ap (λ b. cond b (x ∷ filter p xs) (filter p xs)) e

  pub filter_no : (x : X) (xs : List X) → p x ≡ false → filter p (x ∷ xs) ≡ filter p xs
  filter_no x xs e = ap (λ b. cond b (x ∷ filter p xs) (filter p xs)) e

  pub filters_swap : (q : X → Bool) (xs : List X) → filter p (filter q xs) ≡ filter q (filter p xs)
  filters_swap q [] = refl
  filters_swap q (x ∷ xs) = both (p x) (q x) refl refl (filters_swap q xs)
    where
      yes_q : (ys : List X) → q x ≡ true → filter q (x ∷ ys) ≡ x ∷ filter q ys
      yes_q ys e = ap (λ b. cond b (x ∷ filter q ys) (filter q ys)) e

      no_q : (ys : List X) → q x ≡ false → filter q (x ∷ ys) ≡ filter q ys
      no_q ys e = ap (λ b. cond b (x ∷ filter q ys) (filter q ys)) e

      both : (a b : Bool) → p x ≡ a → q x ≡ b → filter p (filter q xs) ≡ filter q (filter p xs)
          → filter p (filter q (x ∷ xs)) ≡ filter q (filter p (x ∷ xs))
      both true true e f ih = ap (filter p) (yes_q xs f) ∙ filter_yes x (filter q xs) e ∙ ap (λ l. x ∷ l) ih
          ∙ sym (yes_q (filter p xs) f) ∙ sym (ap (filter q) (filter_yes x xs e))
      both true false e f ih = ap (filter p) (no_q xs f) ∙ ih ∙ sym (no_q (filter p xs) f) ∙ sym (ap (filter q) (filter_yes x xs e))
      both false true e f ih = ap (filter p) (yes_q xs f) ∙ filter_no x (filter q xs) e ∙ ih ∙ sym (ap (filter q) (filter_no x xs e))
      both false false e f ih = ap (filter p) (no_q xs f) ∙ ih ∙ sym (ap (filter q) (filter_no x xs e))

module _ {X : Type 0} (n : X → ℕ) where
  -- none is below this, and none below one before it
  abbrev pub IsFrom : ℕ → List X → Type 0
  IsFrom low [] = Unit {0}
  IsFrom low (x ∷ xs) = (low ≤ n x) × IsFrom (n x) xs

  lower : (a b : ℕ) (xs : List X) → a ≤ b → IsFrom b xs → IsFrom a xs
  lower a b [] le up = tt
  lower a b (x ∷ xs) le up = let first = up.0 in (omega (arith, le, first), up.1)

  pub from_sorted : (low : ℕ) (xs : List X) → ((i : ℕ) (d : X) → i < length xs → low ≤ n (get_or xs i d)) → IsNonDecreasingBy n xs
      → IsFrom low xs
  from_sorted low [] least up = tt
  from_sorted low (x ∷ xs) least up = (
    least 0 x (omega arith),
    from_sorted (n x) xs (λ i d h. up 0 (suc i) d (omega arith) (omega (arith, h)))
        (λ i j d le h. up (suc i) (suc j) d (omega (arith, le)) (omega (arith, h))),
  )

  pub from_filter : (p : X → Bool) (low : ℕ) (xs : List X) → IsFrom low xs → IsFrom low (filter p xs)
  from_filter p low [] up = tt
  from_filter p low (x ∷ xs) up = kept (p x) (from_filter p (n x) xs up.1)
    where
      kept : (b : Bool) → IsFrom (n x) (filter p xs) → IsFrom low (cond b (x ∷ filter p xs) (filter p xs))
      kept true rest = (up.0, rest)
      kept false rest = lower low (n x) (filter p xs) up.0 rest

  abbrev pub at : X → X → Bool
  at z y = n z == n y

  none_below : (z : X) (low : ℕ) (xs : List X) → n z < low → IsFrom low xs → filter (at z) xs ≡ []
  none_below z low [] below up = refl
  none_below z low (x ∷ xs) below up =
      let first = up.0 in
      filter_no (at z) x xs (ne_eqb (n z) (n x) (λ e. omega (arith, e, below, first))) ∙ none_below z (n x) xs (omega (arith, below, first)) up.1

  cond_rest : (b : Bool) (x y : X) (xs ys : List X) → cond b (x ∷ xs) xs ≡ cond b (y ∷ ys) ys → xs ≡ ys
  cond_rest true x y xs ys e = ap tail e
    where
      tail : List X → List X
      tail [] = []
      tail (z ∷ zs) = zs
  cond_rest false x y xs ys e = e

  first_same : (x y : X) (xs ys : List X) → x ∷ xs ≡ y ∷ ys → x ≡ y
  first_same x y xs ys e = cc

  not_none : (x : X) (xs : List X) → x ∷ xs ≡ [] → ⊥
  not_none x xs e = cc

  pub one_list : (a b : ℕ) (xs ys : List X) → IsFrom a xs → IsFrom b ys → ((z : X) → filter (at z) xs ≡ filter (at z) ys) → xs ≡ ys
  one_list a b [] [] up up' same = refl
  one_list a b [] (y ∷ ys) up up' same =
      absurd (not_none y (filter (at y) ys) (sym (filter_yes (at y) y ys (eq-eqb (n y) (n y) refl)) ∙ sym (same y)))
  one_list a b (x ∷ xs) [] up up' same =
      absurd (not_none x (filter (at x) xs) (sym (filter_yes (at x) x xs (eq-eqb (n x) (n x) refl)) ∙ same x))
  one_list a b (x ∷ xs) (y ∷ ys) up up' same = elim (cases_lt (n x) (n y)) [
    | inl lt ↦ absurd (not_none x (filter (at x) xs)
        (sym (filter_yes (at x) x xs (eq-eqb (n x) (n x) refl)) ∙ same x ∙ none_below x (n y) (y ∷ ys) lt (le_refl (n y), up'.1)))
    | inr ge ↦ elim (cases_lt (n y) (n x)) [
      | inl gt ↦ absurd (not_none y (filter (at y) ys)
          (sym (filter_yes (at y) y ys (eq-eqb (n y) (n y) refl)) ∙ sym (same y) ∙ none_below y (n x) (x ∷ xs) gt (le_refl (n x), up.1)))
      | inr le ↦
          let level : n x ≡ n y = omega (arith, ge, le) in
          let first : x ≡ y = first_same x y (filter (at x) xs) (filter (at x) ys)
          (sym (filter_yes (at x) x xs (eq-eqb (n x) (n x) refl)) ∙ same x ∙ filter_yes (at x) y ys (eq-eqb (n x) (n y) level)) in
          let rest : xs ≡ ys = one_list (n x) (n y) xs ys up.1 up'.1 (λ z. cond_rest (at z x) x y (filter (at z) xs) (filter (at z) ys)
          (same z ∙ ap (λ k. cond (n z == k) (y ∷ filter (at z) ys) (filter (at z) ys)) (sym level))) in
          λ i. first i ∷ rest i
    ]
  ]

  -- what ties by the number has the same one
  tie_is : (z y : X) → ties (λ a b. is_lt (nat_cmp (n a) (n b))) z y ≡ at z y
  tie_is z y =
      (λ i. not (less_is (n z) (n y) i) && not (less_is (n y) (n z) i)) ∙ level (n z) (n y)
    where
      level : (a b : ℕ) → not (ltb a b) && not (ltb b a) ≡ (a == b)
      level a b = elim (cases_lt a b) [
        | inl lt ↦ ap (λ t. not t && not (ltb b a)) (lt-ltb a b lt) ∙ sym (ne_eqb a b (λ e. omega (arith, e, lt)))
        | inr ge ↦ elim (cases_lt b a) [
          | inl gt ↦ ap (λ t. not t && not (ltb b a)) (le-ltb a b ge) ∙ ap (λ t. not t) (lt-ltb b a gt) ∙ sym (ne_eqb a b (λ e. omega (arith, e, gt)))
          | inr le ↦ ap (λ t. not t && not (ltb b a)) (le-ltb a b ge) ∙ ap (λ t. not t) (le-ltb b a le) ∙ sym (eq-eqb a b (omega (arith, ge, le)))
        ]
      ]

  pub same_at : (xs ys : List X) → IsStableByKey n nat_cmp xs ys → (z : X) → filter (at z) ys ≡ filter (at z) xs
  same_at xs ys stable z =
      let lt : X → X → Bool = λ a b. is_lt (nat_cmp (n a) (n b)) in
      sym (filter_agree (ties lt z) (at z) (tie_is z) ys) ∙ stable z ∙ filter_agree (ties lt z) (at z) (tie_is z) xs
