-- Laws of messages: what is read as one spells it, and a message that fits is read back.
use Rattle.std.proofs.Common.{◌≡◌, ℕ, ◌<◌, ◌≤◌, ◌^◌, nat_le, nat_lt, true, false, List, [], ◌∷◌, ◌++◌, Some, refl, arith}
use Rattle.std.proofs.lemmas.Bool.Decides.{nat_tests}
use Rattle.std.specs.Fmt.{decimal}
use Rattle.std.specs.List.{list_all}
use Rattle.mx_name.proofs.CutLaws.{cut_takes, cut_again}
use Rattle.mx_name.proofs.TextLaws.{all_free}
use Rattle.mx_name.specs.Cuts.{cut_at}
use Rattle.mx_name.specs.Names.{is_free}
use Rattle.mx_sdw.proofs.OctalLaws.{octal_number_takes, octal_number_fits, octal_number_below, octal_has_digits}
use Rattle.mx_sdw.specs.Octal.{is_octal_digit, octal, octal_number}
use Rattle.mx_request.proofs.FieldLaws.{number_takes, number_again, number_free}
use Rattle.mx_request.proofs.StepLaws.{both, both_hold, bind_some, when_some}
use Rattle.mx_request.specs.declared.requests.Request.{Request}
use Rattle.mx_request.specs.declared.requests.Request.TheVariants.{Wakeup}
use Rattle.mx_request.specs.Decimals.{decimal_number, is_digit}
use Rattle.mx_request.specs.Reading.{wakeup_at}
use Rattle.mx_request.specs.RequestTexts.{fits_request, is_process_number, is_word}

-- what was read behind `wakeup`
pub record IsMessage (text : List ℕ) (request : Request) : Type 0 where
  pub to : ℕ
  pub word : ℕ
  pub is : Wakeup to word ≡ request
  pub spelled : decimal to ++ 32 ∷ octal word ≡ text
  pub fits : fits_request (Wakeup to word) ≡ true

below_word : (w : ℕ) → w < 8 ^ 12 → nat_lt w (2 ^ 36) ≡ true
below_word w h = let few : w < 2 ^ 36 = omega arith in test w few
  where
    test : (w : ℕ) → w < 2 ^ 36 → nat_lt w (2 ^ 36) ≡ true
    test w h = grind (arith, nat_tests)

pub wakeup_reads : (text : List ℕ) (request : Request) → wakeup_at text ≡ Some request → IsMessage text request
wakeup_reads text request e =
    let p = bind_some (cut_at 32 text) _ request e in
    let to = bind_some (decimal_number 2 p.0.0) _ request p.2 in
    let word = bind_some (octal_number 12 p.0.1) _ request to.2 in
    let some = when_some (is_process_number to.0) (Wakeup to.0 word.0) request word.2 in
    let number = number_takes 2 p.0.0 to.0 (omega arith) to.1 in
    record {
      to = to.0;
      word = word.0;
      is = some.1;
      spelled =
          spelled to.0 word.0 text p.0.0 p.0.1 (cut_takes 32 text p.0 p.1).0 number.0
          (octal_number_takes 12 p.0.1 word.0 word.1).0;
      fits =
          both_hold (is_process_number to.0) (is_word word.0) some.0
          (below_word word.0 (octal_number_below 12 p.0.1 word.0 word.1));
    }
  where
    spelled : (p w : ℕ) (text front rest : List ℕ) → text ≡ front ++ 32 ∷ rest → decimal p ≡ front → rest ≡ octal w
        → decimal p ++ 32 ∷ octal w ≡ text
    spelled p w text front rest e f g = rw (e, f, g) refl

-- a number of a process that fits has two digits
few : (p : ℕ) → is_process_number p ≡ true → p < 10 ^ 2
few p e = let f = both (nat_le 1 p) (nat_le p 99) e in let h : p ≤ 99 = at_most p f.1 in omega arith
  where
    at_most : (p : ℕ) → nat_le p 99 ≡ true → p ≤ 99
    at_most p e = grind (arith, nat_tests)

large : (p : ℕ) → is_process_number p ≡ true → p < 2 ^ 64
large p e = omega (arith, few p e)

below : (w : ℕ) → is_word w ≡ true → w < 8 ^ 12
below w e = let h : w < 2 ^ 36 = test w e in omega arith
  where
    test : (w : ℕ) → nat_lt w (2 ^ 36) ≡ true → w < 2 ^ 36
    test w e = grind (arith, nat_tests)

pub wakeup_again : (p w : ℕ) → fits_request (Wakeup p w) ≡ true
    → wakeup_at (decimal p ++ 32 ∷ octal w) ≡ Some (Wakeup p w)
wakeup_again p w e =
    let f = both (is_process_number p) (is_word w) e in
    let two : 0 < 2 = omega arith in
    let twelve : 0 < 12 = omega arith in
    rw (
      cut_again 32 (decimal p) (octal w) (number_free 32 p refl (large p f.0)),
      number_again 2 p two (few p f.0) (large p f.0),
      octal_number_fits 12 w (below w f.1) twelve,
      f.0,
    ) refl

pub message_free : (byte p w : ℕ) → is_digit byte ≡ false → is_octal_digit byte ≡ false
    → fits_request (Wakeup p w) ≡ true → list_all (is_free byte) (decimal p ∷ octal w ∷ []) ≡ true
message_free byte p w other octal_other e =
    let f = both (is_process_number p) (is_word w) e in
    both_hold _ _ (number_free byte p other (large p f.0))
    (both_hold _ _ (all_free is_octal_digit byte (octal w) octal_other (octal_has_digits w)) refl)
