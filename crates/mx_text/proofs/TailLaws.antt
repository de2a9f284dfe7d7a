-- Laws on a line that is spelled from its last byte to its first.
use Rattle.std.proofs.Common.{◌≡◌, ℕ, ◌+◌, ◌-◌, ◌<◌, ◌≤◌, ◌^◌, ◌/◌, ◌%◌, List, [], ◌++◌, length, drop, slice_set}
use Rattle.std.proofs.Common.{◌*◌, ◌∷◌, true, nat_eq, get_or, drop-cons, add-one, refl, sym, ap, subst, ◌∙◌, arith, append_assoc, codes, length-append, length-drop}
use Rattle.std.proofs.lemmas.Bool.{agree_below_at}
use Rattle.std.proofs.lemmas.Bool.Decides.{nat_tests}
use Rattle.std.proofs.lemmas.List.{drop-set, drop_all, length-set}
use Rattle.mx_sdw.proofs.OctalLaws.{HasSpelled, below_with_more, last_written, octal_small, length-octal}
use Rattle.mx_sdw.specs.Octal.{octal}
use Rattle.mx_text.specs.declared.printing.tails.TheConstants.{PAIRS}

-- behind the last byte is nothing
pub nothing : (bytes : List ℕ) → length bytes ≡ 3072 → drop 3072 bytes ≡ []
nothing bytes e = drop_all 3072 bytes (omega (arith, e))

-- before the last digit is written, the number and what follows it are still to come
pub none_yet : (bytes : List ℕ) (end n : ℕ) → 22 ≤ end → n < 2 ^ 64
    → HasSpelled (octal n ++ drop end bytes) bytes (end - 1) n
none_yet bytes end n room h =
    let same : end - 1 + 1 ≡ end = omega arith in
    record {
      spelled = rw same refl;
      room = below_with_more n 22 (end - 1 + 1) (omega arith) (omega arith);
    }

-- two digits of what is left to spell
pub two_written : (whole bytes : List ℕ) (start n : ℕ) → HasSpelled whole bytes start n → start < length bytes → 64 ≤ n
    → (0 < start) × (0 < start - 1)
    × HasSpelled whole (slice_set (slice_set bytes start (48 + n % 8)) (start - 1) (48 + n / 8 % 8)) (start - 1 - 1) (n / 8 / 8)
two_written whole bytes start n has s h =
    let last = last_written whole bytes start n has s (omega (arith, h)) in
    let within : start - 1 < length (slice_set bytes start (48 + n % 8)) = rw length-set (omega (arith, s)) in
    let other = last_written whole _ (start - 1) (n / 8) last.1 within (omega (arith, h)) in (last.0, other.0, other.1)

same_number : (m n : ℕ) → nat_eq m n ≡ true → m ≡ n
same_number m n e = grind (arith, nat_tests)

-- the table has the two digits of each number below 64
pub pair_digits : (p : ℕ) → p < 64 → (get_or PAIRS (2 * p) 0 ≡ 48 + p / 8) × (get_or PAIRS (2 * p + 1) 0 ≡ 48 + p % 8)
pair_digits p h =
    let first : nat_eq (get_or PAIRS (2 * p) 0) (48 + p / 8) ≡ true
    = agree_below_at (λ q. nat_eq (get_or PAIRS (2 * q) 0) (48 + q / 8)) (λ q. true) 64 p refl h in
    let last : nat_eq (get_or PAIRS (2 * p + 1) 0) (48 + p % 8) ≡ true
    = agree_below_at (λ q. nat_eq (get_or PAIRS (2 * q + 1) 0) (48 + q % 8)) (λ q. true) 64 p refl h in
    (same_number _ _ first, same_number _ _ last)

-- two digits out of the table
pub pair_written : (whole bytes : List ℕ) (start n first last : ℕ) → HasSpelled whole bytes start n → start < length bytes → 64 ≤ n
    → first ≡ 48 + n % 64 / 8 → last ≡ 48 + n % 64 % 8
    → (2 ≤ start) × HasSpelled whole (slice_set (slice_set bytes start last) (start - 1) first) (start - 2) (n / 64)
pair_written whole bytes start n first last has s h f l =
    let two = two_written whole bytes start n has s h in
    let place : start - 1 - 1 ≡ start - 2 = omega arith in
    let left : n / 8 / 8 ≡ n / 64 = omega arith in
    let first_digit : first ≡ 48 + n / 8 % 8 = omega (arith, f) in
    let last_digit : last ≡ 48 + n % 8 = omega (arith, l) in
    (omega (arith, two.0, two.1), rw (first_digit, last_digit, ← place, ← left) two.2)

-- before any letter is put, and when all are
pub none_put : (bytes letters : List ℕ) (end n : ℕ) → length letters ≡ n → length letters ≤ end
    → drop (end - n + n) bytes ≡ drop n letters ++ drop end bytes
none_put bytes letters end n e room =
    let place : end - n + n ≡ end = omega (arith, e, room) in
    let none : drop n letters ≡ [] = drop_all n letters (omega (arith, e)) in
    rw (place, none) refl

pub all_put : (bytes letters old : List ℕ) (start left : ℕ) → left ≡ 0
    → drop (start + left) bytes ≡ drop left letters ++ old → drop start bytes ≡ letters ++ old
all_put bytes letters old start left none e =
    let place : start + 0 ≡ start = omega arith in
    let P : ℕ → Type 0 = λ k. drop (start + k) bytes ≡ drop k letters ++ old in
    let Q : ℕ → Type 0 = λ k. drop k bytes ≡ letters ++ old in
    subst Q place (subst P none e)

-- one letter more is put before those that are put
pub letter_put : (bytes letters old : List ℕ) (start left : ℕ) → start + left + 1 ≤ length bytes → left < length letters
    → drop (start + (left + 1)) bytes ≡ drop (left + 1) letters ++ old
    → drop (start + left) (slice_set bytes (start + left) (get_or letters left 0)) ≡ drop left letters ++ old
letter_put bytes letters old start left room within e =
    let place : start + left + 1 ≡ start + (left + 1) = omega arith in
    let rest : drop left letters ≡ get_or letters left 0 ∷ drop (left + 1) letters = rw (add-one left) (drop-cons letters left 0 within) in
    drop-set bytes (start + left) (get_or letters left 0) (omega (arith, room)) ∙ rw (place, e, rest) refl

-- after the first digit is written, nothing is to come
pub all_spelled : (whole bytes : List ℕ) (start n : ℕ) → HasSpelled whole bytes start n → start < length bytes → n < 8
    → drop start (slice_set bytes start (48 + n)) ≡ whole
all_spelled whole bytes start n has s h =
    drop-set bytes start (48 + n) s ∙ ap (λ xs. xs ++ drop (start + 1) bytes) (sym (octal_small n h)) ∙ has.spelled

-- a reference's text before what follows it
pub element_before : (kind address ring point outcome old : List ℕ)
    → (kind ++ codes " ") ++ (address ++ (codes " ring " ++ (ring ++ (codes " point " ++ (point ++ (outcome ++ (codes "\n" ++ old)))))))
    ≡ (kind ++ codes " " ++ address ++ codes " ring " ++ ring ++ codes " point " ++ point ++ outcome ++ codes "\n") ++ old
element_before kind address ring point outcome old =
    rw (append_assoc, append_assoc, append_assoc, append_assoc, append_assoc, append_assoc, append_assoc, append_assoc, append_assoc) refl

-- the text of a line's end
pub line_before : (number result : List ℕ)
    → codes "line " ++ (number ++ (32 ∷ (result ++ 10 ∷ []))) ≡ codes "line " ++ number ++ codes " " ++ result ++ codes "\n"
line_before number result = rw (append_assoc, append_assoc, append_assoc) refl

-- an entry's number, its process and its ring
pub asker_before : (number process ring : List ℕ)
    → number ++ (32 ∷ (process ++ (32 ∷ (ring ++ 32 ∷ []))))
    ≡ number ++ codes " " ++ process ++ codes " " ++ ring ++ codes " "
asker_before number process ring = rw (append_assoc, append_assoc, append_assoc, append_assoc) refl

-- a number has at most 22 digits in octal
pub octal_short : (n : ℕ) (after before : List ℕ) (start end : ℕ) → drop start after ≡ octal n ++ drop end before → length after ≡ 3072
    → length before ≡ 3072 → end ≤ 3072 → n < 2 ^ 64 → end ≤ 22 + start
octal_short n after before start end e a b within h =
    let d : length (octal n) ≤ 22 = length-octal n 22 (omega arith) (omega arith) in
    let all : length (drop start after) ≡ length (octal n) + length (drop end before) = ap length e ∙ length-append (octal n) (drop end before) in
    let left : length (drop start after) ≡ length after - start = length-drop start after in
    let rest : length (drop end before) ≡ length before - end = length-drop end before in
    omega (arith, d, all, left, rest, a, b, within)
