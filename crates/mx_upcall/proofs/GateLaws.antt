-- The stack of gates, by its top.
use Rattle.std.proofs.Common.{◌≡◌, ℕ, ◌+◌, ◌-◌, ◌<◌, ◌≤◌, ◌↔◌, List, [], ◌∷◌, Some, length, take, drop, reverse, get_or, sym, ap, subst, rules, arith}
use Rattle.std.proofs.lemmas.List.{length-reverse, length-take, reverse-append, take_more}
use Rattle.mx_ptr.specs.Pointers.{PointerParts}
use Rattle.mx_upcall.specs.Gates.{ReturnGate, ReturnGates, popped, usable, IsUsable}

chain : {X : Type 0} {x y z : X} → x ≡ y → y ≡ z → x ≡ z
chain e f = cc

pub as_many : (xs : List ReturnGate) (n : ℕ) → n ≤ length xs → length (reverse (take n xs)) ≡ n
as_many xs n h = simp (length-reverse, length-take) (omega arith)

-- without the last of some gates, seen from the end
below_last : (xs : List ReturnGate) (m : ℕ) (d : ReturnGate) → m < length xs
    → drop 1 (reverse (take (m + 1) xs)) ≡ reverse (take m xs)
below_last xs m d h =
    chain (ap (λ ys. drop 1 (reverse ys)) (take_more xs m d h))
    (ap (drop 1) (reverse-append (take m xs) (get_or xs m d ∷ [])))

without_last : (xs : List ReturnGate) (n : ℕ) → 0 < n → n ≤ length xs → reverse (take (n - 1) xs) ≡ drop 1 (reverse (take n xs))
without_last [] n some h = absurd (omega arith)
without_last (x ∷ xs) n some h =
    let same : n - 1 + 1 ≡ n = omega arith in
    sym (subst (λ (k : ℕ). drop 1 (reverse (take k (x ∷ xs))) ≡ reverse (take (n - 1) (x ∷ xs))) same
    (below_last (x ∷ xs) (n - 1) x (omega arith)))

pub without_top : (most : ℕ) (xs : List ReturnGate) (n : ℕ) (g : ReturnGates) → 0 < n → n ≤ length xs
    → record { most = most; gates = reverse (take n xs) } ≡ g
    → record { most = most; gates = reverse (take (n - 1) xs) } ≡ popped g
without_top most xs n g some h e =
    chain (ap (λ (left : List ReturnGate). record { most = most; gates = left }) (without_last xs n some h)) (ap popped e)

the_top_one : (most : ℕ) (gates : List ReturnGate) (ring : ℕ) (target : PointerParts) (gate : ReturnGate)
    → usable (record { most = most; gates = gates }) ring target ≡ Some gate
    → IsUsable (record { most = most; gates = gates }) ring target gate
the_top_one most [] ring target gate e = cc
the_top_one most (top ∷ below) ring target gate e = search rules

is_usable : (most : ℕ) (gates : List ReturnGate) (ring : ℕ) (target : PointerParts) (gate : ReturnGate)
    → IsUsable (record { most = most; gates = gates }) ring target gate
    → usable (record { most = most; gates = gates }) ring target ≡ Some gate
is_usable most gates ring target gate u = search rules

pub only_the_top_one : (gates : ReturnGates) (ring : ℕ) (target : PointerParts) (gate : ReturnGate)
    → (usable gates ring target ≡ Some gate) ↔ IsUsable gates ring target gate
only_the_top_one gates ring target gate =
    (the_top_one gates.most gates.gates ring target gate, is_usable gates.most gates.gates ring target gate)
