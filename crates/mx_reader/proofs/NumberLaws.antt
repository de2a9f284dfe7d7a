-- Laws of numbers at the front of a text: what is read along the bytes is what a cut behind them, and then its digits, give.
use Rattle.std.proofs.Common.{min, get_or, drop, drop-cons, ◌≡◌, ℕ, zero, suc, ◌+◌, ◌-◌, ◌==◌, ◌*◌, ◌^◌, ◌<◌, ◌≤◌, nat_le, nat_lt, Bool, true, false, cond, ◌&&◌, List, [], ◌∷◌, length, Option, Some, None, refl, ap, sym, ◌∙◌, subst, arith}
use Rattle.std.proofs.Math.Nat.{pow-succ'}
use Rattle.std.proofs.lemmas.List.{length-drop}
use Rattle.std.proofs.lemmas.Bool.{eqb-true, eq-eqb}
use Rattle.std.proofs.lemmas.Bool.Decides.{nat_tests}
use Rattle.std.specs.List.{list_all}
use Rattle.mx_name.specs.Cuts.{behind, cut_at}
use Rattle.mx_reader.specs.Numbers.{begun, decimal_front, decimal_more, decimal_then, digits_on, number_front, octal_front, octal_more, octal_then}
use Rattle.mx_request.specs.Decimals.{decimal_after, decimal_number, is_digit}
use Rattle.mx_request.specs.Steps.{◌>>=◌, when}
use Rattle.mx_script.specs.Fronts.{after}
use Rattle.mx_sdw.specs.Octal.{begins_number, is_octal_digit, octal_number, octal_value, value_after}

-- the number, where nothing stands behind its digits
abbrev if_last : ℕ → List ℕ → Option ℕ
if_last n [] = Some n
if_last n (c ∷ cs) = None

abbrev pub whole : ℕ × List ℕ → Option ℕ
whole f = if_last f.0 f.1

-- the number, and what stands behind the mark, where the mark stands behind its digits
abbrev pub marked : ℕ → ℕ × List ℕ → Option (ℕ × List ℕ)
marked mark f = after (mark ∷ []) f.1 >>= λ rest. Some (f.0, rest)

no_fewer : (k : ℕ) → suc k - 1 ≡ k
no_fewer k = omega arith

and_false : (a : Bool) → a && false ≡ false
and_false true = refl
and_false false = refl

pub other_way : (a b : ℕ) → (a == b) ≡ (b == a)
other_way a b = grind (arith, nat_tests)

same_test : (a b : ℕ) → nat_le (suc a) (suc b) ≡ nat_le a b
same_test a b = grind (arith, nat_tests)

all_above : (b : ℕ) → nat_le 0 b ≡ true
all_above b = grind (arith, nat_tests)

some_below : (b : ℕ) → nat_lt 0 (suc b) ≡ true
some_below b = grind (arith, nat_tests)

none_below : (a : ℕ) → nat_le (suc a) 0 ≡ false
none_below a = grind (arith, nat_tests)

one_fits : (digits : ℕ) → 1 ≤ digits → nat_le 1 digits ≡ true
one_fits digits some = grind (arith, nat_tests)

more_fits : (a digits : ℕ) → 1 ≤ digits → nat_le (suc a) digits ≡ nat_le a (digits - 1)
more_fits a digits some = grind (arith, nat_tests)

more_left : (room i : ℕ) → i < room → nat_lt 0 (room - i) ≡ true
more_left room i e = grind (arith, nat_tests)

no_more_left : (room i : ℕ) → room ≤ i → nat_lt 0 (room - i) ≡ false
no_more_left room i e = grind (arith, nat_tests)

module _ (is_one : ℕ → Bool) (more : ℕ → ℕ → ℕ) where
  abbrev value_on : ℕ → List ℕ → ℕ
  value_on n [] = n
  value_on n (c ∷ cs) = value_on (more n c) cs

  -- the digits are the whole text where all its bytes are digits and there is room for them
  on_whole : (room n : ℕ) (text : List ℕ) → whole (digits_on is_one more room n text)
      ≡ when (list_all is_one text && nat_le (length text) room) (value_on n text)
  unfolding digits_on
  on_whole room n [] = rw (all_above room) refl
  on_whole room n (c ∷ cs) = by_one (is_one c) room (λ room. on_whole room (more n c) cs)
    where
      by_one : (one : Bool) (room : ℕ)
          → ((room : ℕ) → whole (digits_on is_one more room (more n c) cs) ≡ when (list_all is_one cs && nat_le (length cs) room) (value_on (more n c) cs))
          → whole (cond (one && nat_lt 0 room) (digits_on is_one more (room - 1) (more n c) cs) (n, c ∷ cs))
          ≡ when ((one && list_all is_one cs) && nat_le (suc (length cs)) room) (value_on (more n c) cs)
      by_one false room ih = refl
      by_one true zero ih = rw (none_below (length cs), and_false (list_all is_one cs)) refl
      by_one true (suc k) ih = rw (some_below k, no_fewer k, same_test (length cs) k) (ih k)

  -- along a text, digit by digit
  module _ (room n i : ℕ) (text : List ℕ) where
    pub one_on : i < room → i < length text → is_one (get_or text i 0) ≡ true
        → digits_on is_one more (room - (i + 1)) (more n (get_or text i 0)) (drop (i + 1) text) ≡ digits_on is_one more (room - i) n (drop i text)
    unfolding digits_on
    one_on low in_text one =
        let next : i + 1 ≡ suc i = omega arith in
        let left : nat_lt 0 (room - i) ≡ true = more_left room i low in
        let fewer : room - suc i ≡ room - i - 1 = omega arith in
        rw (next, drop-cons text i 0 in_text, one, left, fewer) refl

    pub stops_on : i < length text → is_one (get_or text i 0) ≡ false
        → digits_on is_one more (room - i) n (drop i text) ≡ (n, drop i text)
    unfolding digits_on
    stops_on in_text other = rw (drop-cons text i 0 in_text, other) refl

    pub ends_on : i ≡ min room (length text) → digits_on is_one more (room - i) n (drop i text) ≡ (n, drop i text)
    unfolding digits_on
    ends_on end = by_rest (drop i text) refl
      where
        by_rest : (rest : List ℕ) → drop i text ≡ rest → digits_on is_one more (room - i) n rest ≡ (n, rest)
        by_rest [] e = refl
        by_rest (c ∷ cs) e =
            let some : 0 < length (drop i text) = rw e (omega arith) in
            let none : nat_lt 0 (room - i) ≡ false = no_more_left room i (omega (arith, some, length-drop i text)) in
            rw (none, and_false (is_one c)) refl

  -- where the mark is no digit, a cut at the mark is behind the digits, or there is none
  on_cut : (mark room n : ℕ) (text : List ℕ) → is_one mark ≡ false → marked mark (digits_on is_one more room n text)
      ≡ (cut_at mark text >>= λ p. whole (digits_on is_one more room n p.0) >>= λ m. Some (m, p.1))
  unfolding digits_on cut_at after
  on_cut mark room n [] other = refl
  on_cut mark room n (c ∷ cs) other = by_mark (c == mark) refl (on_cut mark (room - 1) (more n c) cs other)
    where
      by_cut : (test : Bool) (cut : Option (List ℕ × List ℕ)) → is_one c && nat_lt 0 room ≡ test → (mark == c) ≡ false
          → (test ≡ true → marked mark (digits_on is_one more (room - 1) (more n c) cs)
          ≡ (cut >>= λ p. whole (digits_on is_one more (room - 1) (more n c) p.0) >>= λ m. Some (m, p.1)))
          → marked mark (cond test (digits_on is_one more (room - 1) (more n c) cs) (n, c ∷ cs))
          ≡ (behind (c ∷ []) cut >>= λ p. whole (digits_on is_one more room n p.0) >>= λ m. Some (m, p.1))
      by_cut true None t m ih = ih refl
      by_cut true (Some q) t m ih = rw t (ih refl)
      by_cut false None t m ih = rw m refl
      by_cut false (Some q) t m ih = rw (m, t) refl

      by_mark : (test : Bool) → (c == mark) ≡ test → marked mark (digits_on is_one more (room - 1) (more n c) cs)
          ≡ (cut_at mark cs >>= λ p. whole (digits_on is_one more (room - 1) (more n c) p.0) >>= λ m. Some (m, p.1))
          → marked mark (cond (is_one c && nat_lt 0 room) (digits_on is_one more (room - 1) (more n c) cs) (n, c ∷ cs))
          ≡ (cond test (Some ([], cs)) (behind (c ∷ []) (cut_at mark cs)) >>= λ p. whole (digits_on is_one more room n p.0) >>= λ m. Some (m, p.1))
      by_mark true t ih =
          let here : c ≡ mark = eqb-true c mark t in
          let none : is_one c ≡ false = ap is_one here ∙ other in
          let back : (mark == c) ≡ true = eq-eqb mark c (sym here) in
          rw (none, back) refl
      by_mark false t ih =
          by_cut (is_one c && nat_lt 0 room) (cut_at mark cs) refl (other_way mark c ∙ t) (λ _. ih)

  -- the number at the front of a text, where the text begins as a number does and has at most so many digits
  abbrev number : ℕ → List ℕ → Option ℕ
  number digits text = when (begins_number text && (list_all is_one text && nat_le (length text) digits)) (value_on 0 text)

  module _ (zero_first : is_one 48 ≡ true) (first_alone : (c : ℕ) → more 0 c ≡ c - 48) where
    begins_so : (c : ℕ) (cs : List ℕ) → (c == 48) ≡ false → begins_number (c ∷ cs) ≡ true
    begins_so c [] other = refl
    begins_so c (d ∷ ds) other = rw other refl

    front_whole : (digits : ℕ) (text : List ℕ) → 1 ≤ digits → (number_front is_one more digits text >>= whole) ≡ number digits text
    unfolding number_front digits_on
    front_whole digits [] some = refl
    front_whole digits (c ∷ cs) some = by_zero (c == 48) refl
      where
        begun_zero : Option (ℕ × ℕ)
        begun_zero = Some (0, 0)

        begun_by : Bool → ℕ → Option (ℕ × ℕ)
        begun_by one c = cond one (Some (digits - 1, c - 48)) None

        after_zero : (cs : List ℕ) → whole (digits_on is_one more 0 0 cs) ≡ number digits (48 ∷ cs)
        after_zero [] = rw (zero_first, one_fits digits some, first_alone 48) refl
        after_zero (d ∷ ds) = rw (and_false (is_one d)) refl

        by_one : (one : Bool) → is_one c ≡ one → (c == 48) ≡ false
            → ((begun_by one c >>= λ b. Some (digits_on is_one more b.0 b.1 cs)) >>= whole) ≡ number digits (c ∷ cs)
        by_one true t other =
            rw (begins_so c cs other, t, more_fits (length cs) digits some, first_alone c) (on_whole (digits - 1) (c - 48) cs)
        by_one false t other = rw (t, and_false (begins_number (c ∷ cs))) refl

        by_zero : (test : Bool) → (c == 48) ≡ test
            → ((cond test begun_zero (begun_by (is_one c) c) >>= λ b. Some (digits_on is_one more b.0 b.1 cs)) >>= whole)
            ≡ number digits (c ∷ cs)
        by_zero true t = subst (λ c. whole (digits_on is_one more 0 0 cs) ≡ number digits (c ∷ cs)) (sym (eqb-true c 48 t)) (after_zero cs)
        by_zero false t = by_one (is_one c) refl t

    front_cut : (mark digits : ℕ) (text : List ℕ) → is_one mark ≡ false → (mark == 48) ≡ false
        → (number_front is_one more digits text >>= marked mark)
        ≡ (cut_at mark text >>= λ p. (number_front is_one more digits p.0 >>= whole) >>= λ m. Some (m, p.1))
    unfolding number_front cut_at
    front_cut mark digits [] other zero_other = refl
    front_cut mark digits (c ∷ cs) other zero_other = by_mark (c == mark) refl
      where
        by_cut : (b : Option (ℕ × ℕ)) (cut : Option (List ℕ × List ℕ)) → begun is_one digits c ≡ b
            → ((h : ℕ × ℕ) → marked mark (digits_on is_one more h.0 h.1 cs)
            ≡ (cut >>= λ p. whole (digits_on is_one more h.0 h.1 p.0) >>= λ m. Some (m, p.1)))
            → ((b >>= λ b. Some (digits_on is_one more b.0 b.1 cs)) >>= marked mark)
            ≡ (behind (c ∷ []) cut >>= λ p. (number_front is_one more digits p.0 >>= whole) >>= λ m. Some (m, p.1))
        by_cut None None e on = refl
        by_cut None (Some q) e on = rw e refl
        by_cut (Some h) None e on = on h
        by_cut (Some h) (Some q) e on = rw e (on h)

        by_mark : (test : Bool) → (c == mark) ≡ test
            → ((begun is_one digits c >>= λ b. Some (digits_on is_one more b.0 b.1 cs)) >>= marked mark)
            ≡ (cond test (Some ([], cs)) (behind (c ∷ []) (cut_at mark cs)) >>= λ p. (number_front is_one more digits p.0 >>= whole) >>= λ m. Some (m, p.1))
        by_mark true t =
            let here : c ≡ mark = eqb-true c mark t in
            let none : is_one c ≡ false = ap is_one here ∙ other in
            let not_zero : (c == 48) ≡ false = ap (λ (b : ℕ). b == 48) here ∙ zero_other in
            rw (not_zero, none) refl
        by_mark false t = by_cut (begun is_one digits c) (cut_at mark cs) refl (λ h. on_cut mark h.0 h.1 cs other)

decimal_value : (n : ℕ) (text : List ℕ) → value_on is_digit decimal_more n text ≡ decimal_after n text
decimal_value n [] = refl
decimal_value n (c ∷ cs) = decimal_value (decimal_more n c) cs

octal_value_on : (n : ℕ) (text : List ℕ) → value_on is_octal_digit octal_more n text ≡ value_after n text
octal_value_on n [] = refl
octal_value_on n (c ∷ cs) = octal_value_on (octal_more n c) cs

and_then : (a b c : Bool) → (a && b) && c ≡ a && (b && c)
and_then true b c = refl
and_then false b c = refl

-- decimal numbers
decimal_first : (c : ℕ) → decimal_more 0 c ≡ c - 48
decimal_first c = omega arith

pub decimal_whole : (digits : ℕ) (text : List ℕ) → 1 ≤ digits → decimal_number digits text ≡ (decimal_front digits text >>= whole)
unfolding decimal_number
decimal_whole digits text some =
    sym (front_whole is_digit decimal_more refl decimal_first digits text some
    ∙ ap (when (begins_number text && (list_all is_digit text && nat_le (length text) digits))) (decimal_value 0 text))

-- octal numbers
octal_first : (c : ℕ) → octal_more 0 c ≡ c - 48
octal_first c = omega arith

pub octal_whole : (digits : ℕ) (text : List ℕ) → 1 ≤ digits → octal_number digits text ≡ (octal_front digits text >>= whole)
unfolding octal_number
octal_whole digits text some =
    ap (λ b. when b (octal_value text)) (and_then (begins_number text) (list_all is_octal_digit text) (nat_le (length text) digits))
    ∙ sym (front_whole is_octal_digit octal_more refl octal_first digits text some
    ∙ ap (when (begins_number text && (list_all is_octal_digit text && nat_le (length text) digits))) (octal_value_on 0 text))

-- behind a cut
pub bind_same : {A B : Type 0} (o : Option A) (f g : A → Option B) → ((a : A) → f a ≡ g a) → (o >>= f) ≡ (o >>= g)
bind_same None f g e = refl
bind_same (Some a) f g e = e a

pub decimal_cut : (digits : ℕ) (text : List ℕ) → 1 ≤ digits → decimal_then digits text ≡ (decimal_front digits text >>= marked 32)
decimal_cut digits text some =
    bind_same (cut_at 32 text) _ _ (λ p. ap (λ o. o >>= λ n. Some (n, p.1)) (decimal_whole digits p.0 some))
    ∙ sym (front_cut is_digit decimal_more refl decimal_first 32 digits text refl refl)

pub octal_cut : (digits mark : ℕ) (text : List ℕ) → 1 ≤ digits → is_octal_digit mark ≡ false → (mark == 48) ≡ false
    → octal_then digits mark text ≡ (octal_front digits text >>= marked mark)
octal_cut digits mark text some other zero_other =
    bind_same (cut_at mark text) _ _ (λ p. ap (λ o. o >>= λ n. Some (n, p.1)) (octal_whole digits p.0 some))
    ∙ sym (front_cut is_octal_digit octal_more refl octal_first mark digits text other zero_other)

-- one more digit is at most one more place
pub decimal_wider : (n c e : ℕ) → n < 10 ^ e → is_digit c ≡ true → decimal_more n c < 10 ^ (e + 1)
decimal_wider n c e low digit =
    let small : c < 58 = grind (arith, nat_tests) in
    let next : e + 1 ≡ suc e = omega arith in
    let more : 10 ^ (e + 1) ≡ 10 * 10 ^ e = rw next (pow-succ' 10 e) in
    omega (arith, low, small, more)

pub octal_wider : (n c e : ℕ) → n < 8 ^ e → is_octal_digit c ≡ true → octal_more n c < 8 ^ (e + 1)
octal_wider n c e low digit =
    let small : c < 56 = grind (arith, nat_tests) in
    let next : e + 1 ≡ suc e = omega arith in
    let more : 8 ^ (e + 1) ≡ 8 * 8 ^ e = rw next (pow-succ' 8 e) in
    omega (arith, low, small, more)
