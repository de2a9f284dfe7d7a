-- Laws of fields: what a field is read as is spelled so, and a field that fits is read back.
use Rattle.std.proofs.Common.{◌≡◌, ◌≢◌, ℕ, zero, suc, ◌+◌, ◌-◌, ◌^◌, ◌<◌, ◌≤◌, nat_le, nat_eq, Bool, true, false, not, ◌&&◌, List, [], ◌∷◌, ◌++◌, map, length, get_or, Some, refl, sym, subst, arith, rules, lit<}
use Rattle.std.proofs.Math.Nat.{pow-le-pow_right}
use Rattle.std.proofs.lemmas.Bool.Decides.{nat_tests}
use Rattle.std.proofs.lemmas.Fmt.{decimal-digits_value, digits_value-decimal, digits_decimal, decimal_digit, decimal_nonempty, first_decimal, length-decimal-le}
use Rattle.std.proofs.lemmas.Str.Parse.{IsNumeralModel, numerals_by_fold, digits_value_short}
use Rattle.std.specs.Fmt.{decimal}
use Rattle.std.specs.List.{list_all}
use Rattle.mx_name.proofs.TextLaws.{all_free}
use Rattle.mx_name.specs.Names.{is_free}
use Rattle.mx_sdw.proofs.OctalLaws.{octal_has_digits, octal_number_takes, octal_number_below, octal_number_fits}
use Rattle.mx_sdw.specs.Octal.{begins_number, is_octal_digit, octal, octal_number}
use Rattle.mx_request.proofs.StepLaws.{both, some_is, bind_some, when_some}
use Rattle.mx_name.proofs.CutLaws.{cut_takes, cut_again}
use Rattle.mx_name.specs.Cuts.{cut_at}
use Rattle.mx_request.specs.Fields.{line_of, ring_text}
use Rattle.mx_request.specs.Decimals.{is_digit, decimal_after, decimal_number}
use Rattle.mx_request.specs.Reading.{ring_at, brackets_at, brackets_before}
use Rattle.mx_request.specs.RequestTexts.{is_ring, is_segno, are_brackets}
use Rattle.mx_request.specs.WordNumbers.{word_number_of}

-- decimal numbers
digit_range : (c : ℕ) → is_digit c ≡ true → (48 ≤ c) × (c ≤ 57)
digit_range c e = grind (arith, nat_tests)

range_digit : (c : ℕ) → 48 ≤ c → c ≤ 57 → is_digit c ≡ true
range_digit c l h = grind (arith, nat_tests)

pub own : IsNumeralModel (λ ds. list_all is_digit ds ≡ true) (decimal_after 0)
own = numerals_by_fold _ (search rules) decimal_after (search rules)

first_not_zero : (c : ℕ) → not (nat_eq c 48) ≡ true → c ≢ 48
first_not_zero c e = grind (arith, nat_tests)

numbers_begin : (ds : List ℕ) → begins_number ds ≡ true → (0 < length ds) × (get_or ds 0 0 ≡ 48 → length ds ≡ 1)
numbers_begin [] e = cc
numbers_begin (c ∷ []) e = (omega arith, λ _. refl)
numbers_begin (c ∷ d ∷ rest) e = (omega arith, λ z. absurd (first_not_zero c e z))

begins_large : (ds : List ℕ) → 0 < length ds → 48 < get_or ds 0 0 → begins_number ds ≡ true
begins_large [] some large = absurd (omega arith)
begins_large (c ∷ []) some large = refl
begins_large (c ∷ d ∷ rest) some large = test c large
  where
    test : (c : ℕ) → 48 < c → not (nat_eq c 48) ≡ true
    test c h = grind (arith, nat_tests)

begins_decimal : (n : ℕ) → n < 2 ^ 64 → begins_number (decimal n) ≡ true
begins_decimal zero h = rw (decimal_digit 0 (lit< tt)) refl
begins_decimal (suc n) h = begins_large (decimal (suc n)) (decimal_nonempty (suc n) h) (first_decimal (suc n) (omega arith) h)

pub at_most : (a b : ℕ) → nat_le a b ≡ true → a ≤ b
at_most a b e = grind (arith, nat_tests)

pub at_most_test : (a b : ℕ) → a ≤ b → nat_le a b ≡ true
at_most_test a b h = grind (arith, nat_tests)

-- a number of so many digits is one of at most more digits
pub below_with_more : (n i k : ℕ) → n < 10 ^ i → i ≤ k → n < 10 ^ k
below_with_more n i k h more = let room : 10 ^ i ≤ 10 ^ k = pow-le-pow_right (lit< tt) more in omega arith

-- what was read of a text of at most so many digits
pub number_takes : (digits : ℕ) (text : List ℕ) (n : ℕ) → 10 ^ digits ≤ 2 ^ 64 → decimal_number digits text ≡ Some n
    → (decimal n ≡ text) × (n < 10 ^ digits)
unfolding decimal_number
number_takes digits text n wide e =
    let found = when_some _ _ n e in
    let f = both (begins_number text) (list_all is_digit text && nat_le (length text) digits) found.0 in
    let g = both (list_all is_digit text) (nat_le (length text) digits) f.1 in
    let begins = numbers_begin text f.0 in
    let short : decimal_after 0 text < 10 ^ digits =
    digits_value_short own text digits g.0 (at_most (length text) digits g.1) in
    let large : decimal_after 0 text < 2 ^ 64 = below_both (decimal_after 0 text) (10 ^ digits) (2 ^ 64) short wide in
    let P : ℕ → Type 0 = λ m. (decimal m ≡ text) × (m < 10 ^ digits) in
    subst P found.1 (decimal-digits_value own text g.0 begins.0 begins.1 large, short)
  where
    below_both : (a b c : ℕ) → a < b → b ≤ c → a < c
    below_both a b c h k = omega arith

pub number_again : (digits n : ℕ) → 0 < digits → n < 10 ^ digits → n < 2 ^ 64 → decimal_number digits (decimal n) ≡ Some n
unfolding decimal_number
number_again digits n some few large =
    let short = at_most_test (length (decimal n)) digits (length-decimal-le digits n some few large) in
    rw (begins_decimal n large, digits_decimal own n large, short, digits_value-decimal own n large) refl

pub number_free : (byte n : ℕ) → is_digit byte ≡ false → n < 2 ^ 64 → is_free byte (decimal n) ≡ true
number_free byte n other large = all_free is_digit byte (decimal n) other (digits_decimal own n large)

-- WORDS
pub words_takes : (text : List ℕ) (n : ℕ) → decimal_number 5 text ≡ Some n → (decimal n ≡ text) × (nat_le n 99999 ≡ true)
words_takes text n e =
    let f = number_takes 5 text n (omega arith) e in
    let few : n < 10 ^ 5 = f.1 in (f.0, at_most_test n 99999 (omega arith))

pub gate_takes : (text : List ℕ) (n : ℕ) → decimal_number 4 text ≡ Some n → (decimal n ≡ text) × (nat_le n 9999 ≡ true)
gate_takes text n e =
    let f = number_takes 4 text n (omega arith) e in
    let few : n < 10 ^ 4 = f.1 in (f.0, at_most_test n 9999 (omega arith))

pub gate_below : (text : List ℕ) (n : ℕ) → decimal_number 4 text ≡ Some n → n ≤ 9999
gate_below text n e = at_most n 9999 (gate_takes text n e).1

few_words : (n : ℕ) → nat_le n 99999 ≡ true → n < 2 ^ 64
few_words n e = omega (arith, at_most n 99999 e)

few_digits : (n : ℕ) → nat_le n 99999 ≡ true → n < 10 ^ 5
few_digits n e = omega (arith, at_most n 99999 e)

pub words_again : (n : ℕ) → nat_le n 99999 ≡ true → decimal_number 5 (decimal n) ≡ Some n
words_again n e = number_again 5 n (omega arith) (few_digits n e) (few_words n e)

few_gates : (n : ℕ) → nat_le n 9999 ≡ true → n < 10 ^ 4
few_gates n e = omega (arith, at_most n 9999 e)

pub gate_again : (n : ℕ) → nat_le n 9999 ≡ true → decimal_number 4 (decimal n) ≡ Some n
gate_again n e = let few = few_gates n e in number_again 4 n (omega arith) few (omega (arith, few))

pub gate_free : (byte n : ℕ) → is_digit byte ≡ false → nat_le n 9999 ≡ true → is_free byte (decimal n) ≡ true
gate_free byte n other e = number_free byte n other (let few = few_gates n e in omega (arith, few))

pub words_free : (byte n : ℕ) → is_digit byte ≡ false → nat_le n 99999 ≡ true → is_free byte (decimal n) ≡ true
words_free byte n other e = number_free byte n other (few_words n e)

-- rings
digit_takes : (c r : ℕ) (test : Bool) → is_octal_digit c ≡ test → ring_at (c ∷ []) ≡ Some r → (ring_text r ≡ c ∷ []) × (is_ring r ≡ true)
digit_takes c r _ _ e =
    let found = when_some (is_octal_digit c) (c - 48) r e in
    let P : ℕ → Type 0 = λ r. (ring_text r ≡ c ∷ []) × (is_ring r ≡ true) in
    subst P found.1 (rw (number c found.0) refl, digit c found.0)
  where
    number : (c : ℕ) → is_octal_digit c ≡ true → 48 + (c - 48) ≡ c
    number c e = grind (arith, nat_tests)

    digit : (c : ℕ) → is_octal_digit c ≡ true → nat_le (c - 48) 7 ≡ true
    digit c e = grind (arith, nat_tests)

pub ring_takes : (text : List ℕ) (r : ℕ) → ring_at text ≡ Some r → (ring_text r ≡ text) × (is_ring r ≡ true)
ring_takes [] r e = cc
ring_takes (c ∷ []) r e = digit_takes c r (is_octal_digit c) refl e
ring_takes (c ∷ d ∷ rest) r e = cc

pub ring_again : (r : ℕ) → is_ring r ≡ true → ring_at (ring_text r) ≡ Some r
ring_again r e = rw (digit r e, same) refl
  where
    digit : (r : ℕ) → nat_le r 7 ≡ true → is_octal_digit (48 + r) ≡ true
    digit r e = grind (arith, nat_tests)

    same : 48 + r - 48 ≡ r
    same = omega arith

pub ring_free : (byte r : ℕ) → is_digit byte ≡ false → is_ring r ≡ true → is_free byte (ring_text r) ≡ true
ring_free byte r other e = all_free is_digit byte (ring_text r) other (rw (digit r e) refl)
  where
    digit : (r : ℕ) → nat_le r 7 ≡ true → is_digit (48 + r) ≡ true
    digit r e = grind (arith, nat_tests)

-- segment numbers
pub segno_takes : (text : List ℕ) (n : ℕ) → octal_number 4 text ≡ Some n → (octal n ≡ text) × (is_segno n ≡ true)
segno_takes text n e =
    let below : n < 8 ^ 4 = octal_number_below 4 text n e in
    (sym (octal_number_takes 4 text n e).0, at_most_test n 4095 (omega arith))

pub segno_again : (n : ℕ) → is_segno n ≡ true → octal_number 4 (octal n) ≡ Some n
segno_again n e = let below : n ≤ 4095 = at_most n 4095 e in octal_number_fits 4 n (omega arith) (omega arith)

pub segno_free : (byte n : ℕ) → is_digit byte ≡ false → is_free byte (octal n) ≡ true
segno_free byte n other = all_free is_octal_digit byte (octal n) (no_octal byte other) (octal_has_digits n)
  where
    no_octal : (c : ℕ) → is_digit c ≡ false → is_octal_digit c ≡ false
    no_octal c e = grind (arith, nat_tests)

-- word numbers
pub word_number_takes : (text : List ℕ) (w : ℕ) → word_number_of text ≡ Some w → (octal w ≡ text) × (nat_le w 16383 ≡ true)
word_number_takes text w e =
    let o = bind_some (octal_number 5 text) _ w e in
    let few = when_some (nat_le o.0 16383) o.0 w o.2 in
    subst (λ (n : ℕ). (octal n ≡ text) × (nat_le n 16383 ≡ true)) few.1 (sym (octal_number_takes 5 text o.0 o.1).0, few.0)

pub word_number_again : (w : ℕ) → nat_le w 16383 ≡ true → word_number_of (octal w) ≡ Some w
word_number_again w e =
    let below : w < 8 ^ 5 = omega (arith, at_most w 16383 e) in
    let five : 0 < 5 = omega arith in
    rw (octal_number_fits 5 w below five, e) refl

-- three rings
pub record IsBrackets (text rings : List ℕ) : Type 0 where
  pub spelled : line_of (map ring_text rings) ≡ text
  pub fits : are_brackets rings ≡ true
  pub behind : (field : List ℕ) → line_of (field ∷ map ring_text rings) ≡ field ++ 32 ∷ line_of (map ring_text rings)

three_rings : (r1 r2 r3 : ℕ) (text x rest y z : List ℕ) → text ≡ x ++ 32 ∷ rest → rest ≡ y ++ 32 ∷ z
    → (ring_text r1 ≡ x) × (is_ring r1 ≡ true) → (ring_text r2 ≡ y) × (is_ring r2 ≡ true) → (ring_text r3 ≡ z) × (is_ring r3 ≡ true)
    → IsBrackets text (r1 ∷ r2 ∷ r3 ∷ [])
three_rings r1 r2 r3 text x rest y z e f g h i = record {
  spelled = rw (e, f, ← g.0, ← h.0, ← i.0) refl;
  fits = rw (g.1, h.1, i.1) refl;
  behind = λ field. refl;
}

pub brackets_takes : (text rings : List ℕ) → brackets_at text ≡ Some rings → IsBrackets text rings
brackets_takes text rings e =
    let p = bind_some (cut_at 32 text) _ rings e in
    let q = bind_some (cut_at 32 p.0.1) _ rings p.2 in
    let r1 = bind_some (ring_at p.0.0) _ rings q.2 in
    let r2 = bind_some (ring_at q.0.0) _ rings r1.2 in
    let r3 = bind_some (ring_at q.0.1) _ rings r2.2 in
    subst (IsBrackets text) (some_is _ _ r3.2)
    (three_rings r1.0 r2.0 r3.0 text p.0.0 p.0.1 q.0.0 q.0.1 (cut_takes 32 text p.0 p.1).0 (cut_takes 32 p.0.1 q.0 q.1).0
    (ring_takes p.0.0 r1.0 r1.1) (ring_takes q.0.0 r2.0 r2.1) (ring_takes q.0.1 r3.0 r3.1))

rings_again : (r1 r2 r3 : ℕ) → is_ring r1 ≡ true → is_ring r2 ≡ true → is_ring r3 ≡ true
    → brackets_at (ring_text r1 ++ 32 ∷ (ring_text r2 ++ 32 ∷ ring_text r3)) ≡ Some (r1 ∷ r2 ∷ r3 ∷ [])
rings_again r1 r2 r3 e f g =
    rw (
      cut_again 32 (ring_text r1) (ring_text r2 ++ 32 ∷ ring_text r3) (ring_free 32 r1 refl e),
      cut_again 32 (ring_text r2) (ring_text r3) (ring_free 32 r2 refl f),
      ring_again r1 e,
      ring_again r2 f,
      ring_again r3 g,
    ) refl

-- three rings that fit, one by one
pub record AreThree (brackets : List ℕ) : Type 0 where
  pub r1 : ℕ
  pub r2 : ℕ
  pub r3 : ℕ
  pub are : brackets ≡ r1 ∷ r2 ∷ r3 ∷ []
  pub first : is_ring r1 ≡ true
  pub second : is_ring r2 ≡ true
  pub third : is_ring r3 ≡ true

pub three_of : (brackets : List ℕ) → are_brackets brackets ≡ true → AreThree brackets
three_of [] e = cc
three_of (r1 ∷ []) e = cc
three_of (r1 ∷ r2 ∷ []) e = cc
three_of (r1 ∷ r2 ∷ r3 ∷ []) e =
    let f = both (is_ring r1) (list_all is_ring (r2 ∷ r3 ∷ [])) e in
    let g = both (is_ring r2) (list_all is_ring (r3 ∷ [])) f.1 in
    let h = both (is_ring r3) true g.1 in
    record { r1 = r1; r2 = r2; r3 = r3; are = refl; first = f.0; second = g.0; third = h.0 }
three_of (r1 ∷ r2 ∷ r3 ∷ r4 ∷ rings) e =
    absurd (omega (arith, same (suc (suc (suc (suc (length rings))))) (both (nat_eq (length (r1 ∷ r2 ∷ r3 ∷ r4 ∷ rings)) 3) _ e).0))
  where
    same : (n : ℕ) → nat_eq n 3 ≡ true → n ≡ 3
    same n e = grind (arith, nat_tests)

pub brackets_again : (brackets : List ℕ) → are_brackets brackets ≡ true → brackets_at (line_of (map ring_text brackets)) ≡ Some brackets
brackets_again brackets e =
    let three = three_of brackets e in
    let P : List ℕ → Type 0 = λ b. brackets_at (line_of (map ring_text b)) ≡ Some b in
    subst P (sym three.are) (rings_again three.r1 three.r2 three.r3 three.first three.second three.third)

-- a field before them has a blank behind it
pub brackets_behind : (field brackets : List ℕ) → are_brackets brackets ≡ true
    → line_of (field ∷ map ring_text brackets) ≡ field ++ 32 ∷ line_of (map ring_text brackets)
brackets_behind field brackets e =
    let three = three_of brackets e in
    let P : List ℕ → Type 0 = λ b. line_of (field ∷ map ring_text b) ≡ field ++ 32 ∷ line_of (map ring_text b) in
    subst P (sym three.are) refl

-- three rings, with fields behind them
pub record IsBefore (text rings rest : List ℕ) : Type 0 where
  pub fits : are_brackets rings ≡ true
  pub spelled : (field last : List ℕ) (more : List (List ℕ)) → line_of (last ∷ more) ≡ rest
      → line_of (field ∷ map ring_text rings ++ last ∷ more) ≡ field ++ 32 ∷ text

three_before : (r1 r2 r3 : ℕ) (text x mid y end z rest : List ℕ) → text ≡ x ++ 32 ∷ mid → mid ≡ y ++ 32 ∷ end → end ≡ z ++ 32 ∷ rest
    → (ring_text r1 ≡ x) × (is_ring r1 ≡ true) → (ring_text r2 ≡ y) × (is_ring r2 ≡ true) → (ring_text r3 ≡ z) × (is_ring r3 ≡ true)
    → IsBefore text (r1 ∷ r2 ∷ r3 ∷ []) rest
three_before r1 r2 r3 text x mid y end z rest e f g h i j = record {
  fits = rw (h.1, i.1, j.1) refl;
  spelled = λ field last more k. rw (k, e, f, g, ← h.0, ← i.0, ← j.0) refl;
}

pub before_takes : (text : List ℕ) (p : List ℕ × List ℕ) → brackets_before text ≡ Some p → IsBefore text p.0 p.1
before_takes text result e =
    let p = bind_some (cut_at 32 text) _ result e in
    let q = bind_some (cut_at 32 p.0.1) _ result p.2 in
    let r = bind_some (cut_at 32 q.0.1) _ result q.2 in
    let r1 = bind_some (ring_at p.0.0) _ result r.2 in
    let r2 = bind_some (ring_at q.0.0) _ result r1.2 in
    let r3 = bind_some (ring_at r.0.0) _ result r2.2 in
    subst (λ (g : List ℕ × List ℕ). IsBefore text g.0 g.1) (some_is _ _ r3.2)
    (three_before r1.0 r2.0 r3.0 text p.0.0 p.0.1 q.0.0 q.0.1 r.0.0 r.0.1
    (cut_takes 32 text p.0 p.1).0 (cut_takes 32 p.0.1 q.0 q.1).0 (cut_takes 32 q.0.1 r.0 r.1).0
    (ring_takes p.0.0 r1.0 r1.1) (ring_takes q.0.0 r2.0 r2.1) (ring_takes r.0.0 r3.0 r3.1))

three_again : (r1 r2 r3 : ℕ) (rest : List ℕ) → is_ring r1 ≡ true → is_ring r2 ≡ true → is_ring r3 ≡ true
    → brackets_before (ring_text r1 ++ 32 ∷ (ring_text r2 ++ 32 ∷ (ring_text r3 ++ 32 ∷ rest))) ≡ Some (r1 ∷ r2 ∷ r3 ∷ [], rest)
three_again r1 r2 r3 rest e f g =
    rw (
      cut_again 32 (ring_text r1) (ring_text r2 ++ 32 ∷ (ring_text r3 ++ 32 ∷ rest)) (ring_free 32 r1 refl e),
      cut_again 32 (ring_text r2) (ring_text r3 ++ 32 ∷ rest) (ring_free 32 r2 refl f),
      cut_again 32 (ring_text r3) rest (ring_free 32 r3 refl g),
      ring_again r1 e,
      ring_again r2 f,
      ring_again r3 g,
    ) refl

pub before_again : (brackets last : List ℕ) (more : List (List ℕ)) → are_brackets brackets ≡ true
    → brackets_before (line_of (map ring_text brackets ++ last ∷ more)) ≡ Some (brackets, line_of (last ∷ more))
before_again brackets last more e =
    let three = three_of brackets e in
    let P : List ℕ → Type 0 = λ b. brackets_before (line_of (map ring_text b ++ last ∷ more)) ≡ Some (b, line_of (last ∷ more)) in
    subst P (sym three.are) (three_again three.r1 three.r2 three.r3 (line_of (last ∷ more)) three.first three.second three.third)

-- a field before them has a blank behind it
pub before_behind : (field brackets last : List ℕ) (more : List (List ℕ)) → are_brackets brackets ≡ true
    → line_of (field ∷ map ring_text brackets ++ last ∷ more) ≡ field ++ 32 ∷ line_of (map ring_text brackets ++ last ∷ more)
before_behind field brackets last more e =
    let three = three_of brackets e in
    let P : List ℕ → Type 0 = λ b. line_of (field ∷ map ring_text b ++ last ∷ more) ≡ field ++ 32 ∷ line_of (map ring_text b ++ last ∷ more) in
    subst P (sym three.are) refl
