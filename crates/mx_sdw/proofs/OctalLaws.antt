-- Octal numbers: what is spelled is read back, and what is read is spelled so.
use Rattle.std.proofs.Common.{◌≡◌, ℕ, zero, suc, ◌+◌, ◌-◌, ◌*◌, ◌/◌, ◌%◌, ◌<◌, ◌≤◌, ◌^◌, inl, inr, nat_eq, nat_le, ◌≢◌, ◌↔◌, Bool, true, false, not, ◌&&◌, cond, List, [], ◌∷◌, ◌++◌, length, take, drop, slice_set, Some, None, refl, ap, sym, ◌∙◌, subst, arith, append_assoc, append-nil, length-append, lit<}
use Rattle.std.proofs.Math.Nat.{pow-le-pow_right, pow-succ'}
use Rattle.std.proofs.lemmas.List.Folds.{list_all-append}
use Rattle.std.proofs.lemmas.List.{drop-set, drop_all, take_all, length-drop, length-set}
use Rattle.std.proofs.lemmas.Bool.{cases_lt}
use Rattle.std.proofs.lemmas.Bool.Decides.{nat_tests}
use Rattle.std.specs.List.{list_all}
use Rattle.mx_sdw.specs.Octal.{is_octal_digit, begins_number, is_octal, value_after, octal_value, octal_number, octal_within, octal}

-- a number of so many digits is one of at most more digits
pub below_with_more : (n i k : ℕ) → n < 8 ^ i → i ≤ k → n < 8 ^ k
below_with_more n i k h more = let room : 8 ^ i ≤ 8 ^ k = pow-le-pow_right (lit< tt) more in omega arith

-- one more digit
value_after-append : (n : ℕ) (xs : List ℕ) (c : ℕ) → value_after n (xs ++ c ∷ []) ≡ 8 * value_after n xs + (c - 48)
value_after-append n [] c = refl
value_after-append n (x ∷ xs) c = value_after-append (8 * n + (x - 48)) xs c

-- digits after a number above 0 give one that is larger by at least their number
value_grows : (n : ℕ) (ds : List ℕ) → 0 < n → n + length ds ≤ value_after n ds
value_grows n [] h = omega arith
value_grows n (d ∷ ds) h = omega (arith, value_grows (8 * n + (d - 48)) ds (omega arith))

-- the two cases of a spelling
one_digit : (k n : ℕ) → n < 8 → octal_within (suc k) n ≡ (48 + n) ∷ []
unfolding octal_within
one_digit k n h = grind arith

more_digits : (k n : ℕ) → 8 ≤ n → octal_within (suc k) n ≡ octal_within k (n / 8) ++ (48 + n % 8) ∷ []
unfolding octal_within
more_digits k n h = grind arith

pub octal_small : (n : ℕ) → n < 8 → octal n ≡ (48 + n) ∷ []
unfolding octal
octal_small n h = one_digit n n h

-- what is spelled is read back
value-octal_within : (k n : ℕ) → n < k → octal_value (octal_within k n) ≡ n
value-octal_within zero n h = absurd (omega arith)
value-octal_within (suc k) n h =
    elim (cases_lt n 8) [
      | inl s ↦ rw (one_digit k n s) (omega arith)
      | inr l ↦ rw (more_digits k n l) (rw value_after-append (rw (value-octal_within k (n / 8) (omega arith)) (omega arith)))
    ]

pub octal_value-octal : (n : ℕ) → octal_value (octal n) ≡ n
unfolding octal
octal_value-octal n = value-octal_within (suc n) n (omega arith)

-- a spelling is made of octal digits
digit_below : (d : ℕ) → d < 8 → is_octal_digit (48 + d) ≡ true
digit_below d h = grind (arith, nat_tests)

digits_in : (k n : ℕ) → list_all is_octal_digit (octal_within k n) ≡ true
unfolding octal_within
digits_in zero n = refl
digits_in (suc k) n =
    elim (cases_lt n 8) [
      | inl s ↦ rw (one_digit k n s) (rw (digit_below n s) refl)
      | inr l ↦ rw (more_digits k n l) (rw list_all-append (rw (digits_in k (n / 8)) (rw (digit_below (n % 8) (omega arith)) refl)))
    ]

pub octal_has_digits : (n : ℕ) → list_all is_octal_digit (octal n) ≡ true
unfolding octal
octal_has_digits n = digits_in (suc n) n

-- a spelling of a number above 0 does not begin with '0'
abbrev leads : List ℕ → Bool
leads [] = false
leads (c ∷ rest) = not (nat_eq c 48)

leads-append : (xs ys : List ℕ) → leads xs ≡ true → leads (xs ++ ys) ≡ true
leads-append [] ys h = cc
leads-append (x ∷ xs) ys h = h

leads_on : (k n : ℕ) → n < k → 0 < n → leads (octal_within k n) ≡ true
leads_on zero n h p = absurd (omega arith)
leads_on (suc k) n h p =
    elim (cases_lt n 8) [
      | inl s ↦ rw (one_digit k n s) (grind (arith, nat_tests))
      | inr l ↦ rw (more_digits k n l) (leads-append (octal_within k (n / 8)) _ (leads_on k (n / 8) (omega arith) (omega arith)))
    ]

begins-from_leads : (xs : List ℕ) → leads xs ≡ true → begins_number xs ≡ true
begins-from_leads [] h = h
begins-from_leads (x ∷ []) h = refl
begins-from_leads (x ∷ y ∷ ys) h = h

begins_in : (k n : ℕ) → n < k → begins_number (octal_within k n) ≡ true
begins_in zero n h = absurd (omega arith)
begins_in (suc k) n h =
    elim (cases_lt n 8) [
      | inl s ↦ rw (one_digit k n s) refl
      | inr l ↦ begins-from_leads (octal_within (suc k) n) (leads_on (suc k) n h (omega arith))
    ]

pub is_octal-octal : (n : ℕ) → is_octal (octal n) ≡ true
unfolding octal
is_octal-octal n = rw (begins_in (suc n) n (omega arith), octal_has_digits n) refl

-- how many digits a spelling has
length_in : (k n d : ℕ) → n < 8 ^ d → 0 < d → length (octal_within k n) ≤ d
unfolding octal_within
length_in zero n d h p = omega arith
length_in (suc k) n d h p =
    elim (cases_lt n 8) [
      | inl s ↦ rw (one_digit k n s) (omega arith)
      | inr l ↦ rw (more_digits k n l) (longer k n d h p l (length_in k))
    ]
  where
    longer : (k n d : ℕ) → n < 8 ^ d → 0 < d → 8 ≤ n → ((m e : ℕ) → m < 8 ^ e → 0 < e → length (octal_within k m) ≤ e)
        → length (octal_within k (n / 8) ++ (48 + n % 8) ∷ []) ≤ d
    longer k n zero h p l shorter = absurd (omega arith)
    longer k n (suc zero) h p l shorter = absurd (omega arith)
    longer k n (suc (suc e)) h p l shorter =
        omega (arith, length-append (octal_within k (n / 8)) ((48 + n % 8) ∷ []), pow-succ' 8 (suc e), shorter (n / 8) (suc e) (omega (arith, pow-succ' 8 (suc e))) (omega arith))

pub length-octal : (n d : ℕ) → n < 8 ^ d → 0 < d → length (octal n) ≤ d
unfolding octal
length-octal n d h p = length_in (suc n) n d h p

-- more room for digits changes nothing
same_in : (j k n : ℕ) → n < j → n < k → octal_within j n ≡ octal_within k n
same_in zero k n h g = absurd (omega arith)
same_in (suc j) zero n h g = absurd (omega arith)
same_in (suc j) (suc k) n h g =
    elim (cases_lt n 8) [
      | inl s ↦ one_digit j n s ∙ sym (one_digit k n s)
      | inr l ↦ rw (more_digits j n l, more_digits k n l, same_in j k (n / 8) (omega arith) (omega arith)) refl
    ]

-- the facts in a test of digits
first_digit : (d : ℕ) (rest : Bool) → is_octal_digit d && rest ≡ true → (48 ≤ d) × (d < 56) × (rest ≡ true)
first_digit d rest h = grind (arith, nat_tests)

pub octal_large : (n : ℕ) → 8 ≤ n → octal n ≡ octal (n / 8) ++ (48 + n % 8) ∷ []
unfolding octal
octal_large n h = more_digits n n h ∙ ap (λ xs. xs ++ (48 + n % 8) ∷ []) (same_in n (suc (n / 8)) (n / 8) (omega arith) (omega arith))

-- what there is of a spelling: the digits from a place on, before which the spelling of n is to come and has room
pub record HasSpelled (whole digits : List ℕ) (start n : ℕ) : Type 0 where
  pub spelled : octal n ++ drop (start + 1) digits ≡ whole
  pub room : n < 8 ^ (start + 1)

-- before the first digit is written
pub none_spelled : (digits : List ℕ) (n : ℕ) → length digits ≡ 22 → n < 2 ^ 64 → HasSpelled (octal n) digits 21 n
none_spelled digits n l h = record {
  spelled = rw (drop_all 22 digits (omega (arith, l))) (append-nil (octal n));
  room = below_with_more n 22 22 (omega arith) (omega arith);
}

-- a number of two digits or more has room for one digit before its last
room_before : (n i : ℕ) → n < 8 ^ (i + 1) → 8 ≤ n → 0 < i
room_before n zero r h = absurd (omega arith)
room_before n (suc i) r h = omega arith

-- the last digit of what is left to spell
pub last_written : (whole digits : List ℕ) (start n : ℕ) → HasSpelled whole digits start n → start < length digits → 8 ≤ n
    → (0 < start) × HasSpelled whole (slice_set digits start (48 + n % 8)) (start - 1) (n / 8)
last_written whole digits start n has s h =
    let p : 0 < start = room_before n start has.room h in
    let same : start - 1 + 1 ≡ start = omega arith in
    let same' : start + 1 ≡ suc start = omega arith in
    let times : 8 ^ (start + 1) ≡ 8 * 8 ^ start = rw same' (pow-succ' 8 start) in
    let below : n / 8 < 8 ^ start = omega (arith, has.room) in
    let last : drop start (slice_set digits start (48 + n % 8)) ≡ (48 + n % 8) ∷ drop (start + 1) digits = drop-set digits start (48 + n % 8) s in (
      p,
      record {
        spelled = rw (same, last) (sym (append_assoc (octal (n / 8)) ((48 + n % 8) ∷ []) (drop (start + 1) digits))
            ∙ ap (λ xs. xs ++ drop (start + 1) digits) (sym (octal_large n h)) ∙ has.spelled);
        room = subst (λ i. n / 8 < 8 ^ i) (sym same) below;
      },
    )

-- the first digit of what is left to spell
pub first_written : (whole digits : List ℕ) (start n k : ℕ) → HasSpelled whole digits start n → start < length digits → n < 8
    → length digits - start ≤ k → take k (drop start (slice_set digits start (48 + n))) ≡ whole
first_written whole digits start n k has s h e =
    let all : length (drop start (slice_set digits start (48 + n))) ≤ k
    = rw (length-drop, length-set) e in
    take_all k (drop start (slice_set digits start (48 + n))) all ∙ drop-set digits start (48 + n) s ∙ ap (λ xs. xs ++ drop (start + 1) digits) (sym (octal_small n h)) ∙ has.spelled

-- the spelling of a number read on from n is that of n, and the digits read
spelled_on : (ds : List ℕ) (k j n : ℕ) → k ≡ suc j + length ds → 0 < n → list_all is_octal_digit ds ≡ true
    → octal_within k (value_after n ds) ≡ octal_within (suc j) n ++ ds
spelled_on [] k j n e p h = let same : k ≡ suc j = omega arith in rw (same, append-nil) refl
spelled_on (d ∷ ds) k j n e p h =
    let f = first_digit d (list_all is_octal_digit ds) h in
    let m : ℕ = 8 * n + (d - 48) in
    let front : m / 8 ≡ n = omega arith in
    let last : 48 + m % 8 ≡ d = omega arith in
    spelled_on ds k (suc j) m (omega arith) (omega arith) f.2
    ∙ ap (λ xs. xs ++ ds) (more_digits (suc j) m (omega arith))
    ∙ rw (front, last, append_assoc) refl

spelled_back : (c : ℕ) (ds : List ℕ) (n : ℕ) → 0 < c - 48 → c - 48 < 8 → 48 ≤ c → list_all is_octal_digit ds ≡ true
    → n ≡ value_after (c - 48) ds → octal_within (suc n) n ≡ c ∷ ds
spelled_back c ds n p s l h e =
    let grows : c - 48 + length ds ≤ n = omega (arith, value_grows (c - 48) ds p) in
    let whole : octal_within (suc n) (value_after (c - 48) ds) ≡ octal_within (suc (n - length ds)) (c - 48) ++ ds
    = spelled_on ds (suc n) (n - length ds) (c - 48) (omega arith) p h in
    let digit : 48 + (c - 48) ≡ c = omega arith in
    ap (λ m. octal_within (suc n) m) e ∙ whole ∙ rw (one_digit (n - length ds) (c - 48) s, digit) refl

first_not_zero : (c : ℕ) (rest : Bool) → not (nat_eq c 48) && rest ≡ true → (c ≢ 48) × (rest ≡ true)
first_not_zero c rest h = grind (arith, nat_tests)

alone : (c : ℕ) → 48 ≤ c → c < 56 → octal (0 + (c - 48)) ≡ c ∷ []
unfolding octal
alone c l s =
    let same : 0 + (c - 48) ≡ c - 48 = omega arith in
    let digit : 48 + (c - 48) ≡ c = omega arith in
    rw (same, one_digit (c - 48) (c - 48) (omega arith), digit) refl

-- what is read is spelled so
pub octal-octal_value : (text : List ℕ) → is_octal text ≡ true → octal (octal_value text) ≡ text
unfolding octal
octal-octal_value [] h = cc
octal-octal_value (c ∷ []) h = let f = first_digit c true h in alone c f.0 f.1
octal-octal_value (c ∷ d ∷ ds) h =
    let z = first_not_zero c (list_all is_octal_digit (c ∷ d ∷ ds)) h in
    let f = first_digit c (list_all is_octal_digit (d ∷ ds)) z.1 in
    let start : 0 + (c - 48) ≡ c - 48 = omega arith in
    spelled_back c (d ∷ ds) (octal_value (c ∷ d ∷ ds)) (omega arith) (omega arith) f.0 f.2 (ap (λ n. value_after n (d ∷ ds)) start)

-- a number that is read is as small as its digits allow
value_below : (ds : List ℕ) (n i : ℕ) → n < 8 ^ i → list_all is_octal_digit ds ≡ true → value_after n ds < 8 ^ (i + length ds)
value_below [] n i h t = let same : i + 0 ≡ i = omega arith in rw same h
value_below (d ∷ ds) n i h t =
    let f = first_digit d (list_all is_octal_digit ds) t in
    let on = value_below ds (8 * n + (d - 48)) (suc i) (omega (arith, pow-succ' 8 i)) f.2 in
    let same : suc i + length ds ≡ i + suc (length ds) = omega arith in
    subst (λ j. value_after (8 * n + (d - 48)) ds < 8 ^ j) same on

all_digits : (text : List ℕ) → is_octal text ≡ true → list_all is_octal_digit text ≡ true
all_digits text h = second (begins_number text) (list_all is_octal_digit text) h
  where
    second : (a b : Bool) → a && b ≡ true → b ≡ true
    second true b h = h
    second false b h = cc

-- a text is read as a number exactly where it is that number's spelling and has no more than so many digits
record IsRead (digits : ℕ) (text : List ℕ) (n : ℕ) : Type 0 where
  pub spells : is_octal text ≡ true
  pub short : length text ≤ digits
  pub value : octal_value text ≡ n

tested : (a b : Bool) (v n : ℕ) → cond (a && b) (Some v) None ≡ Some n → (a ≡ true) × (b ≡ true) × (v ≡ n)
tested true true v n h = (refl, refl, cc)
tested true false v n h = cc
tested false b v n h = cc

at_most : (a b : ℕ) → nat_le a b ≡ true → a ≤ b
at_most a b h = grind (arith, nat_tests)

at_most_test : (a b : ℕ) → a ≤ b → nat_le a b ≡ true
at_most_test a b h = grind (arith, nat_tests)

is_read : (digits : ℕ) (text : List ℕ) (n : ℕ) → octal_number digits text ≡ Some n → IsRead digits text n
unfolding octal_number
is_read digits text n h =
    let t = tested (is_octal text) (nat_le (length text) digits) (octal_value text) n h in
    record { spells = t.0; short = at_most (length text) digits t.1; value = t.2 }

pub octal_number_takes : (digits : ℕ) (text : List ℕ) (n : ℕ) → octal_number digits text ≡ Some n
    → (text ≡ octal n) × (length text ≤ digits)
octal_number_takes digits text n h =
    let r = is_read digits text n h in
    (sym (octal-octal_value text r.spells) ∙ ap octal r.value, r.short)

pub octal_number_again : (digits n : ℕ) → length (octal n) ≤ digits → octal_number digits (octal n) ≡ Some n
unfolding octal_number
octal_number_again digits n h =
    found (is_octal (octal n)) (nat_le (length (octal n)) digits) (octal_value (octal n)) n
    (is_octal-octal n) (at_most_test (length (octal n)) digits h) (octal_value-octal n)
  where
    found : (a b : Bool) (v n : ℕ) → a ≡ true → b ≡ true → v ≡ n → cond (a && b) (Some v) None ≡ Some n
    found a b v n s t e = rw (s, t, e) refl

pub octal_number_exactly : (digits : ℕ) (text : List ℕ) (n : ℕ)
    → (octal_number digits text ≡ Some n) ↔ ((text ≡ octal n) × (length text ≤ digits))
octal_number_exactly digits text n = (octal_number_takes digits text n, λ h. again text h.0 h.1)
  where
    again : (text : List ℕ) → text ≡ octal n → length text ≤ digits → octal_number digits text ≡ Some n
    again text e short = rw e (octal_number_again digits n (subst (λ t. length t ≤ digits) e short))

pub octal_number_fits : (digits n : ℕ) → n < 8 ^ digits → 0 < digits → octal_number digits (octal n) ≡ Some n
octal_number_fits digits n h p = octal_number_again digits n (length-octal n digits h p)

pub octal_number_below : (digits : ℕ) (text : List ℕ) (n : ℕ) → octal_number digits text ≡ Some n → n < 8 ^ digits
octal_number_below digits text n h =
    let r = is_read digits text n h in
    let one : 0 < 8 ^ 0 = lit< tt in
    let below : octal_value text < 8 ^ (0 + length text) = value_below text 0 0 one (all_digits text r.spells) in
    subst (λ m. m < 8 ^ digits) r.value (below_with_more (octal_value text) (0 + length text) digits below (omega (arith, r.short)))
