-- Names have one sorted order, which `in_byte_order` gives: names that the order does not tell apart are the same.
use Rattle.std.proofs.Common.{ℕ, zero, suc, ◌≡◌, ◌+◌, ◌<◌, length, get_or, Bool, true, false, cond, List, [], ◌∷◌, Ordering, Less, Equal, Greater, is_lt, is_eq, true≢false, refl, sym, ap, ap₂, subst, ◌∙◌, arith, IsPermutation, IsSorted}
use Rattle.std.specs.Bool.{⊤}
use Rattle.std.specs.List.{sum_by}
use Rattle.std.specs.Ordering.{nat_cmp, ordering_reverse}
use Rattle.std.specs.Cmp.Lexicographic.{slice_cmp, texts_ties, same_text}
use Rattle.std.proofs.lemmas.Cmp.{nat_list_cmp_total, tied_itself}
use Rattle.std.proofs.lemmas.List.Sorted.{sum_by-IsPermutation, IsPermutation-refl, IsPermutation-sym, IsPermutation-trans, IsPermutation-cons, IsPermutation-middle}
use Rattle.std.proofs.lemmas.List.Sums.{sum_by-cons}
use Rattle.mx_hier.specs.List.{placed, in_byte_order}

abbrev pub before : List ℕ → List ℕ → Bool
before a b = is_lt (slice_cmp nat_cmp a b)

pub same_name : (a b : List ℕ) → slice_cmp nat_cmp a b ≡ Equal → a ≡ b
same_name a b tied = same_text a b (sym (texts_ties a b ∙ ap is_eq tied))

pub not_turned : (a b : List ℕ) → before a b ≡ true → before b a ≡ false
not_turned a b less = by (slice_cmp nat_cmp a b) refl less
  where
    by : (o : Ordering) → slice_cmp nat_cmp a b ≡ o → is_lt o ≡ true → before b a ≡ false
    by Less is h = ap is_lt (nat_list_cmp_total.antisymm b a ∙ ap ordering_reverse is)
    by Equal is h = absurd (true≢false (sym h))
    by Greater is h = absurd (true≢false (sym h))

-- no name comes before the one that it follows
abbrev pub Follows : List ℕ → List (List ℕ) → Type 0
Follows name [] = ⊤
Follows name (next ∷ names) = before next name ≡ false

abbrev pub Rises : List (List ℕ) → Type 0
Rises [] = ⊤
Rises (name ∷ names) = Follows name names × Rises names

pub rises_sorted : (names : List (List ℕ)) → IsSorted (slice_cmp nat_cmp) names → Rises names
rises_sorted [] sorted = tt
rises_sorted (name ∷ []) sorted = (tt, tt)
rises_sorted (name ∷ next ∷ names) sorted =
    (sorted 0 name (omega arith) (omega arith), rises_sorted (next ∷ names) (λ k d p q. rw Rattle.std.proofs.Common.add-one (rw Rattle.std.proofs.Common.add-one at (sorted (suc k) d (omega arith) (omega arith)))))

follows_placed : (first name : List ℕ) (names : List (List ℕ)) → before name first ≡ false → Follows first names → Follows first (placed name names)
follows_placed first name [] new old = new
follows_placed first name (next ∷ names) new old =
    elim (before next name) as (λ b. Follows first (cond b (next ∷ placed name names) (name ∷ next ∷ names))) [ true ↦ old | false ↦ new ]

rises_placed : (name : List ℕ) (names : List (List ℕ)) → Rises names → Rises (placed name names)
rises_placed name [] up = (tt, tt)
rises_placed name (next ∷ names) up = by (before next name) refl (rises_placed name names up.1)
  where
    by : (b : Bool) → before next name ≡ b → Rises (placed name names) → Rises (cond b (next ∷ placed name names) (name ∷ next ∷ names))
    by true is more = (follows_placed next name names (not_turned next name is) up.0, more)
    by false is more = (is, up)

pub rises_in_byte_order : (names : List (List ℕ)) → Rises (in_byte_order names)
rises_in_byte_order [] = tt
rises_in_byte_order (name ∷ names) = rises_placed name (in_byte_order names) (rises_in_byte_order names)

-- two lists hold the same names where every sum over them is the same
module _ (f : List ℕ → ℕ) where
  sum_placed : (name : List ℕ) (names : List (List ℕ)) → sum_by f (placed name names) ≡ f name + sum_by f names
  sum_placed name [] = sum_by-cons f name []
  sum_placed name (next ∷ names) = by (before next name) (sum_placed name names)
    where
      by : (b : Bool) → sum_by f (placed name names) ≡ f name + sum_by f names → sum_by f (cond b (next ∷ placed name names) (name ∷ next ∷ names)) ≡ f name + sum_by f (next ∷ names)
      by true more = omega (arith, more, sum_by-cons f next (placed name names), sum_by-cons f next names)
      by false more = sum_by-cons f name (next ∷ names)

  pub sum_in_byte_order : (names : List (List ℕ)) → sum_by f (in_byte_order names) ≡ sum_by f names
  sum_in_byte_order [] = refl
  sum_in_byte_order (name ∷ names) = omega (arith, sum_placed name (in_byte_order names), sum_in_byte_order names, sum_by-cons f name names)

-- 1 for a name that does not come after this one
abbrev up_to : List ℕ → List ℕ → ℕ
up_to name other = cond (before name other) 0 1

-- what comes before a name comes before those after it
before_next : (name first next : List ℕ) → slice_cmp nat_cmp name first ≡ Less → before next first ≡ false → slice_cmp nat_cmp name next ≡ Less
before_next name first next less up = by (slice_cmp nat_cmp next first) refl up
  where
    by : (o : Ordering) → slice_cmp nat_cmp next first ≡ o → is_lt o ≡ false → slice_cmp nat_cmp name next ≡ Less
    by Less is h = absurd (true≢false h)
    by Equal is h = subst (λ other. slice_cmp nat_cmp name other ≡ Less) (sym (same_name next first is)) less
    by Greater is h = nat_list_cmp_total.trans name first next less (nat_list_cmp_total.antisymm first next ∙ ap ordering_reverse is)

none_up_to : (name first : List ℕ) (names : List (List ℕ)) → slice_cmp nat_cmp name first ≡ Less → Rises (first ∷ names) → sum_by (up_to name) (first ∷ names) ≡ 0
none_up_to name first [] less up = rw less refl
none_up_to name first (next ∷ names) less up =
    let here : up_to name first ≡ 0 = rw less refl in
    let more = none_up_to name next names (before_next name first next less up.0) up.1 in
    omega (arith, here, more, sum_by-cons (up_to name) first (next ∷ names))

-- the first of a sorted list is among no names that all come after it
not_all_after : (name first : List ℕ) (names others : List (List ℕ)) → slice_cmp nat_cmp name first ≡ Less → Rises (first ∷ others)
    → sum_by (up_to name) (name ∷ names) ≡ sum_by (up_to name) (first ∷ others) → ⊥
not_all_after name first names others less up same =
    let here : up_to name name ≡ 1 = rw (tied_itself nat_list_cmp_total name) refl in
    omega (arith, here, same, none_up_to name first others less up, sum_by-cons (up_to name) name names)

pub one_order : (xs ys : List (List ℕ)) → Rises xs → Rises ys → ((f : List ℕ → ℕ) → sum_by f xs ≡ sum_by f ys) → xs ≡ ys
one_order [] [] up up' same = refl
one_order [] (y ∷ ys) up up' same = absurd (omega (arith, same (λ _. 1), sum_by-cons (λ (_ : List ℕ). 1) y ys))
one_order (x ∷ xs) [] up up' same = absurd (omega (arith, same (λ _. 1), sum_by-cons (λ (_ : List ℕ). 1) x xs))
one_order (x ∷ xs) (y ∷ ys) up up' same =
    by (slice_cmp nat_cmp x y) refl (λ head. one_order xs ys up.1 up'.1 (λ f. omega (arith, ap f head, same f, sum_by-cons f x xs, sum_by-cons f y ys)))
  where
    by : (o : Ordering) → slice_cmp nat_cmp x y ≡ o → (x ≡ y → xs ≡ ys) → x ∷ xs ≡ y ∷ ys
    by Less is rest = absurd (not_all_after x y xs ys is up' (same (up_to x)))
    by Greater is rest = absurd (not_all_after y x ys xs (nat_list_cmp_total.antisymm y x ∙ ap ordering_reverse is) up (sym (same (up_to y))))
    by Equal is rest = let head = same_name x y is in ap₂ ◌∷◌ head (rest head)

-- what a sort ensures of names is their byte order
pub sorted_names : (names sorted : List (List ℕ)) → IsPermutation names sorted → IsSorted (slice_cmp nat_cmp) sorted → sorted ≡ in_byte_order names
sorted_names names sorted moved up =
    one_order sorted (in_byte_order names) (rises_sorted sorted up) (rises_in_byte_order names) (λ f. sum_by-IsPermutation f names sorted moved ∙ sym (sum_in_byte_order f names))

pub rises_is_sorted : (names : List (List ℕ)) → Rises names → IsSorted (slice_cmp nat_cmp) names
rises_is_sorted [] up = λ k d p q. absurd (omega (arith, q))
rises_is_sorted (name ∷ []) up = λ k d p q. absurd (omega (arith, q))
rises_is_sorted (name ∷ next ∷ names) up = λ k d p q. at k d q (rises_is_sorted (next ∷ names) up.1)
  where
    at : (k : ℕ) (d : List ℕ) → k + 1 < length (name ∷ next ∷ names) → IsSorted (slice_cmp nat_cmp) (next ∷ names)
        → before (get_or (name ∷ next ∷ names) (k + 1) d) (get_or (name ∷ next ∷ names) k d) ≡ false
    at zero d q rest = up.0
    at (suc k) d q rest =
        let more : suc k + 1 ≡ suc (k + 1) = omega arith in
        rw more (rest k d (omega arith) (omega (arith, q)))

pub ascending : (names : List (List ℕ)) → IsSorted (slice_cmp nat_cmp) (in_byte_order names)
ascending names = rises_is_sorted (in_byte_order names) (rises_in_byte_order names)

placed_among : (name : List ℕ) (names : List (List ℕ)) → IsPermutation (name ∷ names) (placed name names)
placed_among name [] = IsPermutation-refl (name ∷ [])
placed_among name (next ∷ names) = by (before next name) (placed_among name names)
  where
    by : (b : Bool) → IsPermutation (name ∷ names) (placed name names) → IsPermutation (name ∷ next ∷ names) (cond b (next ∷ placed name names) (name ∷ next ∷ names))
    by false rest = IsPermutation-refl (name ∷ next ∷ names)
    by true rest =
        IsPermutation-trans (name ∷ next ∷ names) (next ∷ name ∷ names) (next ∷ placed name names)
        (IsPermutation-sym (next ∷ name ∷ names) (name ∷ next ∷ names) (IsPermutation-middle (next ∷ []) name names))
        (IsPermutation-cons next (name ∷ names) (placed name names) rest)

pub reordered : (names : List (List ℕ)) → IsPermutation names (in_byte_order names)
reordered [] = IsPermutation-refl []
reordered (name ∷ names) =
    IsPermutation-trans (name ∷ names) (name ∷ in_byte_order names) (placed name (in_byte_order names))
    (IsPermutation-cons name names (in_byte_order names) (reordered names)) (placed_among name (in_byte_order names))
