-- A set of categories is a superset of another exactly where what they share is the other.
use Rattle.std.proofs.Common.{◌≡◌, ℕ, zero, suc, ◌+◌, ◌<◌, ◌≤◌, ◌^◌, min, inl, inr, nat_eq, bit_and, Bool, true, false, not, ◌||◌, refl, ap, sym, ◌∙◌, arith}
use Rattle.std.proofs.lemmas.Bool.{and_from, and_parts, cases_lt}
use Rattle.std.proofs.lemmas.Bool.Decides.{nat_tests}
use Rattle.std.proofs.lemmas.Nat.Bits.{bit_at_and, bit_at-lt, bit_at_above, same_from_bits}
use Rattle.std.specs.Int.{bit_at}
use Rattle.std.specs.List.{list_all, range_with_len}

-- what is tested of each number of a range holds of each, and back
pub tested : (p : ℕ → Bool) (a n i : ℕ) → list_all p (range_with_len a n) ≡ true → a ≤ i → i < a + n → p i ≡ true
tested p a zero i all from below = absurd (omega arith)
tested p a (suc n) i all from below =
    let parts = and_parts (p a) (list_all p (range_with_len (a + 1) n)) all in
    elim (cases_lt a i) [
      | inl later ↦ tested p (a + 1) n i parts.1 (omega arith) (omega arith)
      | inr first ↦ let same : i ≡ a = omega arith in rw same parts.0
    ]

pub all_tested : (p : ℕ → Bool) (a n : ℕ) → ((i : ℕ) → p i ≡ true) → list_all p (range_with_len a n) ≡ true
all_tested p a zero each = refl
all_tested p a (suc n) each = and_from (p a) (list_all p (range_with_len (a + 1) n)) (each a) (all_tested p (a + 1) n each)

-- one set has a bit wherever the other has it
abbrev pub covered : ℕ → ℕ → ℕ → Bool
covered set other i = not (nat_eq (bit_at other i) 1) || nat_eq (bit_at set i) 1

-- of one bit
nothing_shared : (y : ℕ) → y < 2 → min 0 y ≡ 0
nothing_shared zero k = refl
nothing_shared (suc zero) k = refl
nothing_shared (suc (suc y)) k = absurd (omega arith)

pub bit_shared : (x y : ℕ) → x < 2 → y < 2 → (not (nat_eq x 1) || nat_eq y 1) ≡ true → min x y ≡ x
bit_shared zero y h k e = nothing_shared y k
bit_shared (suc zero) zero h k e = cc
bit_shared (suc zero) (suc zero) h k e = refl
bit_shared (suc zero) (suc (suc y)) h k e = absurd (omega arith)
bit_shared (suc (suc x)) y h k e = absurd (omega arith)

pub bit_covered : (x y : ℕ) → x < 2 → y < 2 → min x y ≡ x → (not (nat_eq x 1) || nat_eq y 1) ≡ true
bit_covered zero y h k e = refl
bit_covered (suc zero) zero h k e = cc
bit_covered (suc zero) (suc zero) h k e = refl
bit_covered (suc zero) (suc (suc y)) h k e = absurd (omega arith)
bit_covered (suc (suc x)) y h k e = absurd (omega arith)

module _ (set other : ℕ) where
  all_covered : bit_and other set ≡ other → list_all (covered set other) (range_with_len 0 18) ≡ true
  all_covered e = all_tested (covered set other) 0 18 (λ i.
      bit_covered (bit_at other i) (bit_at set i) (bit_at-lt other i) (bit_at-lt set i)
      (sym (bit_at_and other set i) ∙ ap (λ n. bit_at n i) e))

  all_shared : other < 2 ^ 18 → list_all (covered set other) (range_with_len 0 18) ≡ true → bit_and other set ≡ other
  all_shared few all = same_from_bits (bit_and other set) other (λ i. bit_at_and other set i ∙ shared i)
    where
      shared : (i : ℕ) → min (bit_at other i) (bit_at set i) ≡ bit_at other i
      shared i = elim (cases_lt i 18) [
        | inl within ↦ bit_shared (bit_at other i) (bit_at set i) (bit_at-lt other i) (bit_at-lt set i)
            (tested (covered set other) 0 18 i all (omega arith) (omega arith))
        | inr above ↦ rw (bit_at_above other 18 i few above) (nothing_shared (bit_at set i) (bit_at-lt set i))
      ]

  same_test : (p q : Bool) → (p ≡ true → q ≡ true) → (q ≡ true → p ≡ true) → p ≡ q
  same_test true q f g = sym (f refl)
  same_test false true f g = g refl
  same_test false false f g = refl

  same_number : (n m : ℕ) → nat_eq n m ≡ true → n ≡ m
  same_number n m e = grind (arith, nat_tests)

  number_same : (n m : ℕ) → n ≡ m → nat_eq n m ≡ true
  number_same n m e = grind (arith, nat_tests)

  pub superset_by_bits : other < 2 ^ 18 → nat_eq (bit_and other set) other ≡ list_all (covered set other) (range_with_len 0 18)
  superset_by_bits few = same_test (nat_eq (bit_and other set) other) (list_all (covered set other) (range_with_len 0 18))
      (λ e. all_covered (same_number (bit_and other set) other e))
      (λ all. number_same (bit_and other set) other (all_shared few all))
