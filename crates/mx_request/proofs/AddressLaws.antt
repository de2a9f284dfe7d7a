-- Laws of addresses: what is read as one spells it, and an address that fits is read back.
use Rattle.std.proofs.Common.{◌≡◌, ℕ, ◌==◌, ◌^◌, ◌<◌, nat_le, true, false, List, ◌∷◌, ◌++◌, Some, codes, refl, sym, ◌∙◌, arith, append_assoc}
use Rattle.std.proofs.lemmas.List.Folds.{list_all-append}
use Rattle.mx_name.proofs.CutLaws.{cut_takes, cut_again}
use Rattle.mx_name.proofs.TextLaws.{all_free}
use Rattle.mx_name.specs.Cuts.{cut_at}
use Rattle.mx_name.specs.Names.{is_free}
use Rattle.mx_sdw.proofs.OctalLaws.{octal_number_takes, octal_number_fits, octal_number_below, octal_has_digits}
use Rattle.mx_sdw.specs.Octal.{is_octal_digit, octal, octal_number}
use Rattle.mx_request.proofs.FieldLaws.{at_most, at_most_test, word_number_takes, word_number_again}
use Rattle.mx_request.proofs.StepLaws.{both, both_hold, some_is, bind_some}
use Rattle.mx_request.specs.declared.requests.Request.{Request}
use Rattle.mx_request.specs.declared.requests.Request.TheVariants.{Link}
use Rattle.mx_request.specs.Fields.{address_text}
use Rattle.mx_request.specs.Reading.{link_at}
use Rattle.mx_request.specs.RequestTexts.{fits_request}
use Rattle.mx_request.specs.WordNumbers.{word_number_of}

-- a number has octal digits alone
octal_free : (byte n : ℕ) → is_octal_digit byte ≡ false → is_free byte (octal n) ≡ true
octal_free byte n other = all_free is_octal_digit byte (octal n) other (octal_has_digits n)

-- what was read behind `link`
pub record IsAddress (text : List ℕ) (request : Request) : Type 0 where
  pub segno : ℕ
  pub word : ℕ
  pub is : Link segno word ≡ request
  pub spelled : address_text segno word ≡ text
  pub fits : fits_request (Link segno word) ≡ true

pub link_reads : (text : List ℕ) (request : Request) → link_at text ≡ Some request → IsAddress text request
link_reads text request e =
    let p = bind_some (cut_at 124 text) _ request e in
    let s = bind_some (octal_number 4 p.0.0) _ request p.2 in
    let w = bind_some (word_number_of p.0.1) _ request s.2 in
    let number = word_number_takes p.0.1 w.0 w.1 in
    let parts = cut_takes 124 text p.0 p.1 in
    record {
      segno = s.0;
      word = w.0;
      is = some_is _ _ w.2;
      spelled =
          spelled s.0 w.0 text p.0.0 p.0.1 parts.0 (octal_number_takes 4 p.0.0 s.0 s.1).0
          (sym number.0);
      fits =
          both_hold (nat_le s.0 4095) (nat_le w.0 16383) (small s.0 (octal_number_below 4 p.0.0 s.0 s.1)) number.1;
    }
  where
    spelled : (s w : ℕ) (text front rest : List ℕ) → text ≡ front ++ 124 ∷ rest → front ≡ octal s → rest ≡ octal w
        → octal s ++ codes "|" ++ octal w ≡ text
    spelled s w text front rest e f g = rw (e, f, g, append_assoc) refl

    small : (s : ℕ) → s < 8 ^ 4 → nat_le s 4095 ≡ true
    small s h = at_most_test s 4095 (omega arith)

pub link_again : (s w : ℕ) → fits_request (Link s w) ≡ true → link_at (address_text s w) ≡ Some (Link s w)
link_again s w e =
    let f = both (nat_le s 4095) (nat_le w 16383) e in
    let low : s < 8 ^ 4 = omega (arith, at_most s 4095 f.0) in
    let four : 0 < 4 = omega arith in
    rw (append_assoc, cut_again 124 (octal s) (octal w) (octal_free 124 s refl), octal_number_fits 4 s low four, word_number_again w f.1) refl

pub address_free : (byte s w : ℕ) → is_octal_digit byte ≡ false → (124 == byte) ≡ false
    → is_free byte (address_text s w) ≡ true
address_free byte s w other bar =
    list_all-append _ (octal s ++ codes "|") (octal w)
    ∙ both_hold _ _ (list_all-append _ (octal s) (codes "|") ∙ both_hold _ _ (octal_free byte s other) (rw bar refl))
    (octal_free byte w other)
