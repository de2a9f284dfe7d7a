-- Chains: the last pointer, the largest ring, and where an operand comes with one more word.
use Rattle.std.proofs.Common.{◌≡◌, ℕ, zero, suc, ◌+◌, ◌<◌, ◌≤◌, ◌⊎◌, inl, inr, max, List, [], ◌∷◌, ◌++◌, length, length-append, get_or, nat_eq, Bool, true, false, if◌then◌else◌, Some, None, refl, sym, arith, ap, subst}
use Rattle.std.proofs.lemmas.Bool.{cases_lt}
use Rattle.std.specs.List.{All, Contains}
use Rattle.mx_ptr.specs.Pointers.{PointerParts, parts_of, pointer_in, pointer_tag, tag_of}
use Rattle.mx_effring.specs.Chains.{Indirection, Operand, rings_along, rings_of, largest, effective_ring, last_pointer, place_of, read_on}
use Rattle.mx_effring.specs.Walks.{Reached, reached}

-- a chain ends at the last pointer put to it
last_pointer-on : (p : PointerParts) (xs : List Indirection) (x : Indirection) → last_pointer p (xs ++ x ∷ []) ≡ x.pointer
last_pointer-on p [] x = refl
last_pointer-on p (y ∷ ys) x = last_pointer-on y.pointer ys x

largest-append : (xs ys : List ℕ) → largest (xs ++ ys) ≡ max (largest xs) (largest ys)
largest-append [] ys = omega arith
largest-append (x ∷ xs) ys = omega (arith, largest-append xs ys)

rings_along-append : (xs ys : List Indirection) → rings_along (xs ++ ys) ≡ rings_along xs ++ rings_along ys
rings_along-append [] ys = refl
rings_along-append (x ∷ xs) ys = ap (λ rest. x.pointer.ring ∷ x.r1 ∷ rest) (rings_along-append xs ys)

pub never_below_current : (o : Operand) → o.current ≤ effective_ring o
never_below_current o = omega arith

pub never_falls : (o : Operand) (more : List Indirection) → effective_ring o ≤ effective_ring (record o { chain = o.chain ++ more })
never_falls o more =
    rw (rings_along-append o.chain more) (omega (arith, largest-append (rings_along o.chain) (rings_along more)))

effective_ring-on : (o : Operand) (p : PointerParts) (r1 : ℕ)
    → effective_ring (read_on o p r1) ≡ max (max (effective_ring o) p.ring) r1
effective_ring-on o p r1 =
    rw (rings_along-append o.chain (record { pointer = p; r1 = r1 } ∷ []))
    (omega (arith, largest-append (rings_along o.chain) (p.ring ∷ r1 ∷ [])))

-- where an operand comes with one more word
pub reached_on : (o : Operand) (p : PointerParts) (r1 : ℕ)
    → reached (read_on o p r1) ≡ record { place = p; ring = max (max (effective_ring o) p.ring) r1; count = length o.chain + 1 }
reached_on o p r1 =
    let place : place_of (read_on o p r1) ≡ p = last_pointer-on (record o.base { further = o.indirect }) o.chain (record { pointer = p; r1 = r1 }) in
    let ring : effective_ring (read_on o p r1) ≡ max (max (effective_ring o) p.ring) r1 = effective_ring-on o p r1 in
    let count : length (read_on o p r1).chain ≡ length o.chain + 1 = length-append o.chain _ in
    cc

-- so it is with the pointer in a word
pointer_is : (word : ℕ) (p : PointerParts) → Some p ≡ pointer_in word → p ≡ parts_of word
pointer_is word p is = by_tag (nat_eq (tag_of word) pointer_tag) is
  where
    by_tag : (tagged : Bool) → Some p ≡ (if tagged then Some (parts_of word) else None) → p ≡ parts_of word
    by_tag true is = cc
    by_tag false is = absurd cc

pub read_further : (o : Operand) (at : Reached) (p : PointerParts) (word r1 ring : ℕ) → reached o ≡ at → Some p ≡ pointer_in word
    → ring ≡ max (max at.ring p.ring) r1
    → record { place = p; ring = ring; count = at.count + 1 } ≡ reached (read_on o (parts_of word) r1)
read_further o at p word r1 ring is read rises =
    let pointer : p ≡ parts_of word = pointer_is word p read in
    let was : effective_ring o ≡ at.ring = ap (λ (r : Reached). r.ring) is in
    let many : length o.chain ≡ at.count = ap (λ (r : Reached). r.count) is in
    let on = reached_on o (parts_of word) r1 in
    cc

-- the largest of some rings is one of them
largest_one : (x : ℕ) (xs : List ℕ) → Contains (x ∷ xs) (largest (x ∷ xs))
largest_one x [] = (0, omega arith, omega arith)
largest_one x (y ∷ ys) = by_order (cases_lt x (largest (y ∷ ys))) (largest_one y ys)
  where
    by_order : (x < largest (y ∷ ys)) ⊎ (largest (y ∷ ys) ≤ x) → Contains (y ∷ ys) (largest (y ∷ ys)) → Contains (x ∷ y ∷ ys) (largest (x ∷ y ∷ ys))
    by_order (inl above) later =
        let is : largest (x ∷ y ∷ ys) ≡ largest (y ∷ ys) = omega arith in
        subst (Contains (x ∷ y ∷ ys)) (sym is) (suc later.0, omega (arith, later.1), later.2)
    by_order (inr below) later =
        let is : largest (x ∷ y ∷ ys) ≡ x = omega arith in
        subst (Contains (x ∷ y ∷ ys)) (sym is) (0, omega arith, refl)

-- and none is above it
none_above_largest : (xs : List ℕ) → All (λ ring. ring ≤ largest xs) xs
none_above_largest [] k d i = absurd (omega arith)
none_above_largest (x ∷ xs) zero d i = omega arith
none_above_largest (x ∷ xs) (suc k) d i =
    let later : get_or xs k d ≤ largest xs = none_above_largest xs k d (omega arith) in
    omega (arith, later)

pub is_one_of_them : (o : Operand) → Contains (rings_of o) (effective_ring o)
is_one_of_them o = largest_one o.current (o.base.ring ∷ rings_along o.chain)

pub none_is_above : (o : Operand) → All (λ ring. ring ≤ effective_ring o) (rings_of o)
none_is_above o = none_above_largest (rings_of o)
