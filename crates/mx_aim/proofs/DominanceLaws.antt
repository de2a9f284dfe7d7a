-- Dominance is an order.
use Rattle.std.proofs.Common.{◌≡◌, ℕ, zero, suc, ◌+◌, ◌<◌, ◌≤◌, bit_and, nat_eq, nat_le, Bool, true, false, not, ◌||◌, refl, arith}
use Rattle.std.proofs.lemmas.Bool.{and_from, and_parts}
use Rattle.std.proofs.lemmas.Bool.Decides.{nat_tests}
use Rattle.std.proofs.lemmas.Nat.Bits.{bit_at-lt, bit_at-zero, same_from_bits_below}
use Rattle.std.specs.Int.{bit_at}
use Rattle.std.specs.List.{list_all, range_with_len}
use Rattle.mx_aim.specs.Classes.{PlainClass, IsClass, lowest, has_category, has_all_categories, dominates, equals}
use Rattle.mx_aim.proofs.SupersetLaws.{covered, tested, all_tested, superset_by_bits}

or_self : (x : Bool) → (not x || x) ≡ true
or_self true = refl
or_self false = refl

or_onward : (x y z : Bool) → (not y || x) ≡ true → (not z || y) ≡ true → (not z || x) ≡ true
or_onward x y false h k = refl
or_onward x false true h k = cc
or_onward x true true h k = h

-- a bit that each of two sets has where the other has it
bit_same : (x y : ℕ) → x < 2 → y < 2 → (not (nat_eq y 1) || nat_eq x 1) ≡ true → (not (nat_eq x 1) || nat_eq y 1) ≡ true → x ≡ y
bit_same x y h k to from = grind (arith, nat_tests)

at_most : (a b : ℕ) → nat_le a b ≡ true → a ≤ b
at_most a b h = grind (arith, nat_tests)

at_most_test : (a b : ℕ) → a ≤ b → nat_le a b ≡ true
at_most_test a b h = grind (arith, nat_tests)

same_test : (a b : ℕ) → a ≡ b → nat_eq a b ≡ true
same_test a b e = grind (arith, nat_tests)

-- of what a range of 18 tests, each number below 18
module _ (set other : ℕ) where
  pub each_covered : list_all (covered set other) (range_with_len 0 18) ≡ true → (i : ℕ) → i < 18 → covered set other i ≡ true
  each_covered all i within = tested (covered set other) 0 18 i all (omega arith) within

covered_within : (p q r : ℕ → Bool) (a n : ℕ) → ((i : ℕ) → p i ≡ true → q i ≡ true → r i ≡ true)
    → list_all p (range_with_len a n) ≡ true → list_all q (range_with_len a n) ≡ true → list_all r (range_with_len a n) ≡ true
covered_within p q r a zero each ps qs = refl
covered_within p q r a (suc n) each ps qs =
    let first = and_parts (p a) (list_all p (range_with_len (a + 1) n)) ps in
    let second = and_parts (q a) (list_all q (range_with_len (a + 1) n)) qs in
    and_from (r a) (list_all r (range_with_len (a + 1) n)) (each a first.0 second.0)
    (covered_within p q r (a + 1) n each first.1 second.1)

pub dominates_itself : (c : PlainClass) → dominates c c ≡ true
dominates_itself c = and_from (nat_le c.level c.level) (has_all_categories c c) (at_most_test c.level c.level (omega arith))
    (all_tested (covered c.categories c.categories) 0 18 (λ i. or_self (has_category c i)))

pub dominates_lowest : (c : PlainClass) → dominates c lowest ≡ true
dominates_lowest c = and_from (nat_le 0 c.level) (has_all_categories c lowest) (at_most_test 0 c.level (omega arith))
    (all_tested (covered c.categories 0) 0 18 (λ i. rw (bit_at-zero i) refl))

pub dominates_onward : (a b c : PlainClass) → dominates a b ≡ true → dominates b c ≡ true → dominates a c ≡ true
dominates_onward a b c h k =
    let upper = and_parts (nat_le b.level a.level) (has_all_categories a b) h in
    let lower = and_parts (nat_le c.level b.level) (has_all_categories b c) k in
    let higher : b.level ≤ a.level = at_most b.level a.level upper.0 in
    let high : c.level ≤ b.level = at_most c.level b.level lower.0 in
    and_from (nat_le c.level a.level) (has_all_categories a c) (at_most_test c.level a.level (omega arith))
    (covered_within (covered a.categories b.categories) (covered b.categories c.categories) (covered a.categories c.categories) 0 18
    (λ i to from. or_onward (has_category a i) (has_category b i) (has_category c i) to from) upper.1 lower.1)

pub dominates_both_ways : (a b : PlainClass) → IsClass a → IsClass b → dominates a b ≡ true → dominates b a ≡ true → equals a b ≡ true
dominates_both_ways a b ours theirs h k =
    let to = and_parts (nat_le b.level a.level) (has_all_categories a b) h in
    let from = and_parts (nat_le a.level b.level) (has_all_categories b a) k in
    let higher : b.level ≤ a.level = at_most b.level a.level to.0 in
    let lower : a.level ≤ b.level = at_most a.level b.level from.0 in
    and_from (nat_eq a.level b.level) (nat_eq a.categories b.categories) (same_test a.level b.level (omega arith))
    (same_test a.categories b.categories (same_from_bits_below 18 a.categories b.categories ours.categories theirs.categories (λ i within.
    bit_same (bit_at a.categories i) (bit_at b.categories i) (bit_at-lt a.categories i) (bit_at-lt b.categories i)
    (each_covered a.categories b.categories to.1 i within) (each_covered b.categories a.categories from.1 i within))))

-- what the shared bits say, where the level is high enough
pub dominates_by_bits : (c other : PlainClass) → IsClass other → other.level ≤ c.level
    → nat_eq (bit_and other.categories c.categories) other.categories ≡ dominates c other
dominates_by_bits c other h high = rw (at_most_test other.level c.level high) (superset_by_bits c.categories other.categories h.categories)
