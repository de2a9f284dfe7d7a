-- The gates that stand after pushes and pops.
use Rattle.std.proofs.Common.{◌≡◌, ℕ, zero, suc, pred, ◌+◌, ◌<◌, ◌≤◌, zero-le, ◌⊎◌, inl, inr, Bool, true, false, List, [], ◌∷◌, ◌++◌, cond, if◌then◌else◌, length, take, drop, get_or, refl, sym, ap, subst, append_assoc, arith}
use Rattle.std.proofs.lemmas.Bool.{cases_lt, lt-ltb, le-ltb}
use Rattle.std.proofs.lemmas.List.{append-nil}
use Rattle.std.proofs.lemmas.List.Folds.{list_any_none, list_any_at}
use Rattle.std.proofs.lemmas.List.Sums.{sum_by-cons}
use Rattle.std.proofs.lemmas.List.FromFn.{length-range_with_len, get_or-range_with_len}
use Rattle.std.specs.List.{count_by, range_with_len}
use Rattle.mx_upcall.specs.Gates.{ReturnGate, ReturnGates, no_gates, pushed, popped}
use Rattle.mx_upcall.specs.Histories.{Move, Push, Pop, all_moved, pushes, pops, pops_more, was_popped, left_standing}

chain : {X : Type 0} {x y z : X} → x ≡ y → y ≡ z → x ≡ z
chain e f = cc

-- how many of the gates that stood before them moves pop
taken : List Move → ℕ
taken [] = 0
taken (Push gate ∷ later) = pred (taken later)
taken (Pop ∷ later) = suc (taken later)

-- what a move adds to the counts up to a point after it
pops_push : (gate : ReturnGate) (later : List Move) (n : ℕ)
    → count_by pops (take (suc n) (Push gate ∷ later)) ≡ 0 + count_by pops (take n later)
pops_push gate later n = sum_by-cons (λ move. cond (pops move) 1 0) (Push gate) (take n later)

pushes_push : (gate : ReturnGate) (later : List Move) (n : ℕ)
    → count_by pushes (take (suc n) (Push gate ∷ later)) ≡ 1 + count_by pushes (take n later)
pushes_push gate later n = sum_by-cons (λ move. cond (pushes move) 1 0) (Push gate) (take n later)

pops_pop : (later : List Move) (n : ℕ) → count_by pops (take (suc n) (Pop ∷ later)) ≡ 1 + count_by pops (take n later)
pops_pop later n = sum_by-cons (λ move. cond (pops move) 1 0) Pop (take n later)

pushes_pop : (later : List Move) (n : ℕ) → count_by pushes (take (suc n) (Pop ∷ later)) ≡ 0 + count_by pushes (take n later)
pushes_pop later n = sum_by-cons (λ move. cond (pushes move) 1 0) Pop (take n later)

taken_none : taken [] ≡ 0
unfolding taken
taken_none = refl

taken_push : (gate : ReturnGate) (later : List Move) → taken (Push gate ∷ later) ≡ pred (taken later)
unfolding taken
taken_push gate later = refl

taken_pop : (later : List Move) → taken (Pop ∷ later) ≡ suc (taken later)
unfolding taken
taken_pop later = refl

-- up to any point moves pop no more gates than they push and those
never_more : (moves : List Move) (n : ℕ) → count_by pops (take n moves) ≤ count_by pushes (take n moves) + taken moves
never_more moves zero = zero-le
never_more [] (suc n) = zero-le
never_more (Push gate ∷ later) (suc n) =
    omega (arith, never_more later n, pops_push gate later n, pushes_push gate later n, taken_push gate later)
never_more (Pop ∷ later) (suc n) =
    omega (arith, never_more later n, pops_pop later n, pushes_pop later n, taken_pop later)

-- and up to some point just as many
record Attained (moves : List Move) : Type 0 where
  point : ℕ
  within : point ≤ length moves
  many : taken moves + count_by pushes (take point moves) ≤ count_by pops (take point moves)

attained : (moves : List Move) → Attained moves
attained [] = record { point = 0; within = zero-le; many = omega (arith, taken_none) }
attained (Pop ∷ later) =
    let h = attained later in
    record {
      point = suc h.point;
      within = omega (arith, h.within);
      many = omega (arith, h.many, pops_pop later h.point, pushes_pop later h.point, taken_pop later);
    }
attained (Push gate ∷ later) = after_push (cases_lt 0 (taken later)) (attained later)
  where
    after_push : (0 < taken later) ⊎ (taken later ≤ 0) → Attained later → Attained (Push gate ∷ later)
    after_push (inl some) h = record {
      point = suc h.point;
      within = omega (arith, h.within);
      many = omega (arith, h.many, pops_push gate later h.point, pushes_push gate later h.point, taken_push gate later);
    }
    after_push (inr none) h = record {
      point = 0;
      within = omega arith;
      many = omega (arith, taken_push gate later);
    }

popped_where_taken : (later : List Move) → 0 < taken later → was_popped later ≡ true
popped_where_taken later some =
    let h = attained later in
    let here : h.point < length later + 1 = omega (arith, h.within) in
    let more : pops_more (take h.point later) ≡ true =
    lt-ltb (count_by pushes (take h.point later)) (count_by pops (take h.point later)) (omega (arith, h.many)) in
    let none_before : 0 + h.point ≡ h.point = omega arith in
    let at : get_or (range_with_len 0 (length later + 1)) h.point 0 ≡ h.point =
    chain (get_or-range_with_len 0 (length later + 1) h.point 0 here) none_before in
    list_any_at (λ n. pops_more (take n later)) (range_with_len 0 (length later + 1)) h.point 0
    (subst (λ (size : ℕ). h.point < size) (sym (length-range_with_len 0 (length later + 1))) here)
    (subst (λ (n : ℕ). pops_more (take n later) ≡ true) (sym at) more)

standing_where_not : (later : List Move) → taken later ≤ 0 → was_popped later ≡ false
standing_where_not later none =
    list_any_none (λ n. pops_more (take n later)) (range_with_len 0 (length later + 1))
    (λ k d i. le-ltb _ _ (omega (arith, never_more later (get_or (range_with_len 0 (length later + 1)) k d))))

dropped : (n : ℕ) → drop {A = ReturnGate} n [] ≡ []
dropped zero = refl
dropped (suc n) = refl

nothing_left : (xs : List ReturnGate) (n : ℕ) → drop n (drop 1 xs) ≡ drop (suc n) xs
nothing_left [] n = dropped n
nothing_left (x ∷ xs) n = refl

-- a push, by whether the gate was popped
onto : (later xs : List ReturnGate) (gate : ReturnGate) (t : ℕ) (was : Bool) → ((0 < t) × (was ≡ true)) ⊎ ((t ≤ 0) × (was ≡ false))
    → later ++ drop t (gate ∷ xs) ≡ (later ++ (if was then [] else gate ∷ [])) ++ drop (pred t) xs
onto later xs gate zero false (inr h) = sym (append_assoc later (gate ∷ []) xs)
onto later xs gate (suc t) true (inl h) = ap (λ front. front ++ drop t xs) (sym (append-nil later))
onto later xs gate zero was (inl h) = absurd (omega (arith, h.0))
onto later xs gate (suc t) was (inr h) = absurd (omega (arith, h.0))
onto later xs gate zero true (inr h) = cc (h.1)
onto later xs gate (suc t) false (inl h) = cc (h.1)

which : (later : List Move) → ((0 < taken later) × (was_popped later ≡ true)) ⊎ ((taken later ≤ 0) × (was_popped later ≡ false))
which later = by_number (cases_lt 0 (taken later))
  where
    by_number : (0 < taken later) ⊎ (taken later ≤ 0)
        → ((0 < taken later) × (was_popped later ≡ true)) ⊎ ((taken later ≤ 0) × (was_popped later ≡ false))
    by_number (inl some) = inl (some, popped_where_taken later some)
    by_number (inr none) = inr (none, standing_where_not later none)

-- what stands after moves: what they left, above those that stood before and were not taken
standing : (g : ReturnGates) (moves : List Move) → (all_moved g moves).gates ≡ left_standing moves ++ drop (taken moves) g.gates
unfolding taken
standing g [] = refl
standing g (Push gate ∷ later) =
    chain (standing (pushed g gate) later) (onto (left_standing later) g.gates gate (taken later) (was_popped later) (which later))
standing g (Pop ∷ later) =
    chain (standing (popped g) later) (ap (λ back. left_standing later ++ back) (nothing_left g.gates (taken later)))

pub pushed_and_not_popped : (most : ℕ) (moves : List Move) → (all_moved (no_gates most) moves).gates ≡ left_standing moves
pushed_and_not_popped most moves =
    chain (standing (no_gates most) moves)
    (chain (ap (λ back. left_standing moves ++ back) (dropped (taken moves))) (append-nil (left_standing moves)))
