-- Laws on how many ways there are.
use Rattle.std.proofs.Common.{◌≡◌, inl, inr, drop, min, get_or, ◌<◌, ◌≤◌, ℕ, zero, suc, ◌+◌, ◌*◌, ◌-◌, ◌/◌, ◌^◌, List, [], ◌∷◌, length, refl, sym, ap, ◌∙◌, arith}
use Rattle.std.proofs.Math.Nat.{mul-le-mul, mul-le-mul_left, mul-le-mul_right, mul_assoc, mul_comm, mul-add, add-mul, mul-div_cancel, min-eq_left, min-eq_right}
use Rattle.std.specs.List.{sum}
use Rattle.std.proofs.lemmas.Bool.{cases_lt}
use Rattle.std.proofs.lemmas.List.{drop_more, length-drop, nil_from_length}
use Rattle.std.proofs.lemmas.List.Sums.{sum_by-drop_more}
use Rattle.mx_outcomes.specs.Counts.{choose, orders_among, orders_of}

choose_none : (n : ℕ) → choose n zero ≡ 1
choose_none zero = refl
choose_none (suc n) = refl

pub combine : (k n a b c : ℕ) → suc k * (a + b) ≡ suc n * a → suc (suc k) * (b + c) ≡ suc n * b
    → suc (suc k) * (a + b + (b + c)) ≡ suc (suc n) * (a + b)
combine k n a b c first second =
    let x : suc (suc k) * (a + b + (b + c)) ≡ suc (suc k) * (a + b) + suc (suc k) * (b + c) = mul-add (suc (suc k)) (a + b) (b + c) in
    let y : suc (suc k) * (a + b) ≡ suc k * (a + b) + (a + b) = omega (arith, add-mul (suc k) 1 (a + b)) in
    let z : suc (suc n) * (a + b) ≡ suc n * (a + b) + (a + b) = omega (arith, add-mul (suc n) 1 (a + b)) in
    let w : suc n * (a + b) ≡ suc n * a + suc n * b = mul-add (suc n) a b in
    omega (arith, x, y, z, w, first, second)

-- one more thing, and one more of them
pub choose_one_more : (n k : ℕ) → suc k * choose (suc n) (suc k) ≡ suc n * choose n k
choose_one_more zero zero = refl
choose_one_more zero (suc k) = omega arith
choose_one_more (suc n) zero =
    let rest : suc zero * choose (suc n) (suc zero) ≡ suc n * choose n zero = choose_one_more n zero in
    let one = choose_none n in let two = choose_none (suc n) in
    let ones : choose n zero ≡ 1 = one in
    let few : choose (suc n) (suc zero) ≡ suc n = omega (arith, rest ∙ ap (λ (x : ℕ). suc n * x) ones) in
    omega (arith, few, two)
choose_one_more (suc n) (suc k) =
    let a : suc k * choose (suc n) (suc k) ≡ suc n * choose n k = choose_one_more n k in
    let b : suc (suc k) * choose (suc n) (suc (suc k)) ≡ suc n * choose n (suc k) = choose_one_more n (suc k) in
    combine k n (choose n k) (choose n (suc k)) (choose n (suc (suc k))) a b

pub grows : (n k : ℕ) → choose n k ≤ choose (suc n) (suc k)
grows n k = omega arith

pub grows_to : (n k m j d : ℕ) → m ≡ n + d → j ≡ k + d → choose n k ≤ choose m j
grows_to n k m j zero e f =
    let g : m ≡ n = omega (arith, e) in
    let h : j ≡ k = omega (arith, f) in
    let same : choose m j ≡ choose n k = ap (λ (x : ℕ). choose x j) g ∙ ap (λ (x : ℕ). choose n x) h in
    omega (arith, same)
grows_to n k m j (suc d) e f =
    let g : m ≡ suc (n + d) = omega (arith, e) in
    let h : j ≡ suc (k + d) = omega (arith, f) in
    let same : choose m j ≡ choose (suc (n + d)) (suc (k + d)) = ap (λ (x : ℕ). choose x j) g ∙ ap (λ (x : ℕ). choose (suc (n + d)) x) h in
    let before : choose n k ≤ choose (n + d) (k + d) = grows_to n k (n + d) (k + d) d refl refl in
    let after : choose (n + d) (k + d) ≤ choose (suc (n + d)) (suc (k + d)) = grows (n + d) (k + d) in
    omega (arith, same, before, after)

-- there is one way at least
pub some_way : (before count : ℕ) → 1 ≤ choose (before + count) count
some_way before count =
    let one = choose_none before in
    let more : choose before zero ≤ choose (before + count) count = grows_to before zero (before + count) count count refl (omega arith) in
    omega (arith, one, more)

pub some_order : (before : ℕ) (counts : List ℕ) → 1 ≤ orders_among before counts
some_order before [] = omega arith
some_order before (count ∷ counts) =
    let both : 1 * 1 ≤ choose (before + count) count * orders_among (before + count) counts =
    mul-le-mul (some_way before count) (some_order (before + count) counts) in
    omega (arith, both)

pub product_fits : (x y : ℕ) → x < 2 ^ 64 → y < 2 ^ 32 → x * y < 2 ^ 128
product_fits x y first second =
    let least : x ≤ 2 ^ 64 = omega (arith, first) in
    let most : x * y ≤ 2 ^ 64 * y = mul-le-mul_right y least in omega (arith, most, second)

-- one more line is placed
pub one_more : (ways before chosen : ℕ)
    → ways * choose (before + chosen) chosen * (before + chosen + 1) / (chosen + 1) ≡ ways * choose (before + (chosen + 1)) (chosen + 1)
one_more ways before chosen =
    let n : before + (chosen + 1) ≡ suc (before + chosen) = omega arith in
    let k : chosen + 1 ≡ suc chosen = omega arith in
    let m : before + chosen + 1 ≡ suc (before + chosen) = omega arith in
    let c = choose (before + chosen) chosen in
    let d = choose (suc (before + chosen)) (suc chosen) in
    let step : suc chosen * d ≡ suc (before + chosen) * c = choose_one_more (before + chosen) chosen in
    let top : ways * c * suc (before + chosen) ≡ ways * d * suc chosen =
    mul_assoc ways c (suc (before + chosen)) ∙ ap (λ (x : ℕ). ways * x) (mul_comm c (suc (before + chosen)) ∙ sym step ∙ mul_comm (suc chosen) d)
    ∙ sym (mul_assoc ways d (suc chosen)) in
    ap (λ (x : ℕ). ways * c * x / (chosen + 1)) m
    ∙ ap (λ (x : ℕ). x / (chosen + 1)) top
    ∙ ap (λ (x : ℕ). ways * d * suc chosen / x) k
    ∙ mul-div_cancel (ways * d) {n = suc chosen} (omega arith)
    ∙ ap (λ (x : ℕ). ways * choose x (suc chosen)) (sym n)
    ∙ ap (λ (x : ℕ). ways * choose (before + (chosen + 1)) x) (sym k)

pub next_is : (all next ways before chosen x y z : ℕ) → all ≡ ways * choose (before + chosen) chosen → x ≡ all → y ≡ before + chosen + 1
    → z ≡ chosen + 1 → next ≡ x * y / z → next ≡ ways * choose (before + (chosen + 1)) (chosen + 1)
next_is all next ways before chosen x y z is first second third after = after ∙ ap (λ (k : ℕ). k * y / z) (first ∙ is)
    ∙ ap (λ (k : ℕ). ways * choose (before + chosen) chosen * k / z) second
    ∙ ap (λ (k : ℕ). ways * choose (before + chosen) chosen * (before + chosen + 1) / k) third ∙ one_more ways before chosen

-- too many are not fewer later
pub still_too_many : (ways before chosen count : ℕ) → chosen < count → 2 ^ 64 ≤ ways * choose (before + (chosen + 1)) (chosen + 1)
    → 2 ^ 64 ≤ ways * choose (before + count) count
still_too_many ways before chosen count within many =
    let more : choose (before + (chosen + 1)) (chosen + 1) ≤ choose (before + count) count =
    grows_to (before + (chosen + 1)) (chosen + 1) (before + count) count (count - (chosen + 1)) (omega (arith, within)) (omega (arith, within)) in
    let all : ways * choose (before + (chosen + 1)) (chosen + 1) ≤ ways * choose (before + count) count = mul-le-mul_left ways more in
    omega (arith, all, many)

-- a process more
pub process_more : (ways before count whole : ℕ) (counts : List ℕ) (all : ℕ) → ways * orders_among before (count ∷ counts) ≡ whole
    → all ≡ ways * choose (before + count) count → all * orders_among (before + count) counts ≡ whole
process_more ways before count whole counts all is more = ap (λ (x : ℕ). x * orders_among (before + count) counts) more
    ∙ mul_assoc ways (choose (before + count) count) (orders_among (before + count) counts) ∙ is

pub whole_too_many : (ways before count whole : ℕ) (counts : List ℕ) → ways * orders_among before (count ∷ counts) ≡ whole
    → 2 ^ 64 ≤ ways * choose (before + count) count → 2 ^ 64 ≤ whole
whole_too_many ways before count whole counts is many =
    let some = some_order (before + count) counts in
    let most : ways * choose (before + count) count * 1 ≤ ways * choose (before + count) count * orders_among (before + count) counts =
    mul-le-mul_left (ways * choose (before + count) count) some in
    let same : ways * choose (before + count) count * orders_among (before + count) counts ≡ whole =
    process_more ways before count whole counts (ways * choose (before + count) count) is refl in
    omega (arith, most, same, many)

pub too_many : (all ways before chosen count x y z : ℕ) → chosen < count → all ≡ ways * choose (before + chosen) chosen → x ≡ all
    → y ≡ before + chosen + 1 → z ≡ chosen + 1 → (x * y / z < 2 ^ 64 → ⊥) → 2 ^ 64 ≤ ways * choose (before + count) count
too_many all ways before chosen count x y z within is first second third not =
    let v : x * y / z ≡ ways * choose (before + (chosen + 1)) (chosen + 1) =
    next_is all (x * y / z) ways before chosen x y z is first second third refl in
    elim (cases_lt (x * y / z) (2 ^ 64)) [
      | inl less ↦ absurd (not less)
      | inr many ↦ still_too_many ways before chosen count within (omega (arith, v, many))
    ]

module _ (counts : List ℕ) (i ways before : ℕ) (within : i < length counts) (sums : before + sum (drop i counts) ≡ sum counts)
    (is : ways * orders_among before (drop i counts) ≡ orders_of counts) where
  now : drop i counts ≡ get_or counts i 0 ∷ drop (i + 1) counts
  now = drop_more counts i 0 within

  pub sum_more : before + get_or counts i 0 + sum (drop (i + 1) counts) ≡ sum counts
  sum_more = let e : sum (drop i counts) ≡ get_or counts i 0 + sum (drop (i + 1) counts) = sum_by-drop_more (λ x. x) counts i 0 within in omega (arith, e, sums)

  at_first : ways * orders_among before (get_or counts i 0 ∷ drop (i + 1) counts) ≡ orders_of counts
  at_first = ap (λ (l : List ℕ). ways * orders_among before l) (sym now) ∙ is

  pub ways_more : (all : ℕ) → all ≡ ways * choose (before + get_or counts i 0) (get_or counts i 0)
      → all * orders_among (before + get_or counts i 0) (drop (i + 1) counts) ≡ orders_of counts
  ways_more all more = process_more ways before (get_or counts i 0) (orders_of counts) (drop (i + 1) counts) all at_first more

  pub all_too_many : 2 ^ 64 ≤ ways * choose (before + get_or counts i 0) (get_or counts i 0)
      → 18446744073709551615 ≡ min (orders_of counts) 18446744073709551615
  all_too_many many =
      let most = whole_too_many ways before (get_or counts i 0) (orders_of counts) (drop (i + 1) counts) at_first many in
      sym (min-eq_right (omega (arith, most)))

pub all_counted : (counts : List ℕ) (i ways before : ℕ) → length counts ≤ i → ways * orders_among before (drop i counts) ≡ orders_of counts
    → ways < 2 ^ 64 → ways ≡ min (orders_of counts) 18446744073709551615
all_counted counts i ways before past is fits =
    let none : drop i counts ≡ [] = nil_from_length (drop i counts) (omega (arith, past, length-drop {A = ℕ})) in
    let one : ways * 1 ≡ orders_of counts = ap (λ (l : List ℕ). ways * orders_among before l) (sym none) ∙ is in
    let least : orders_of counts ≤ 18446744073709551615 = omega (arith, one, fits) in
    let m : min (orders_of counts) 18446744073709551615 ≡ orders_of counts = min-eq_left least in
    omega (arith, one, m)
