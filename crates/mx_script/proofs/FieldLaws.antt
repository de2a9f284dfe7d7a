-- Laws of fields: what a field is read as spells that field, and a field that fits is read back.
use Rattle.std.proofs.Common.{◌≡◌, ℕ, ◌==◌, ◌^◌, ◌<◌, ◌≤◌, nat_le, nat_lt, nat_eq, Bool, true, false, not, List, [], ◌++◌, ◌∷◌, Option, None, Some, codes, refl, ap, sym, subst, ◌∙◌, append-nil, arith}
use Rattle.std.proofs.lemmas.Bool.{eqb-true}
use Rattle.std.proofs.lemmas.Bool.Decides.{nat_tests}
use Rattle.std.proofs.lemmas.List.Folds.{list_all-append}
use Rattle.mx_aim.proofs.TextLaws.{class_of_text-class_text, class_text-class_of_text}
use Rattle.mx_aim.specs.Classes.{PlainClass, lowest, equals, class_text, class_of_text}
use Rattle.mx_name.proofs.CutLaws.{cut_takes, cut_again}
use Rattle.mx_name.proofs.TextLaws.{all_free, principal_takes, principal_again, principal_is_free}
use Rattle.mx_name.specs.Cuts.{cut_at}
use Rattle.mx_name.specs.Names.{is_free}
use Rattle.mx_name.specs.Principals.{IsPrincipal, components_fault, principal_of, principal_text}
use Rattle.mx_sdw.proofs.OctalLaws.{octal_number_takes, octal_number_fits, octal_has_digits}
use Rattle.mx_sdw.specs.Octal.{is_octal_digit, octal, octal_number}
use Rattle.std.specs.Fmt.{decimal}
use Rattle.mx_request.proofs.ClassTexts.{class_is, class_fits, class_free}
use Rattle.mx_request.proofs.FieldLaws.{number_takes, number_again, number_free}
use Rattle.mx_request.proofs.StepLaws.{both, both_hold, fails, no_fault, faultless, some_is, bind_some, when_some}
use Rattle.mx_request.specs.Decimals.{decimal_number}
use Rattle.mx_request.specs.RequestTexts.{is_class}
use Rattle.mx_request.specs.declared.entrants.Entrant.{Entrant}
use Rattle.mx_script.specs.Sessions.{entrant, greatest_version, is_version, is_history}
use Rattle.mx_script.specs.SessionTexts.{class_part, entrant_text, fits}
use Rattle.mx_script.specs.Fields.{word_at, written_class, entrant_of, entrant_at}
use Rattle.mx_script.specs.declared.rows.Row.TheVariants as row

pub at_most : (a b : ℕ) → nat_le a b ≡ true → a ≤ b
at_most a b e = grind (arith, nat_tests)

pub at_most_test : (a b : ℕ) → a ≤ b → nat_le a b ≡ true
at_most_test a b h = grind (arith, nat_tests)

pub below : (a b : ℕ) → nat_lt a b ≡ true → a < b
below a b e = grind (arith, nat_tests)

pub below_test : (a b : ℕ) → a < b → nat_lt a b ≡ true
below_test a b h = grind (arith, nat_tests)

-- numbers have octal digits alone
pub octal_free : (byte n : ℕ) → is_octal_digit byte ≡ false → is_free byte (octal n) ≡ true
octal_free byte n other = all_free is_octal_digit byte (octal n) other (octal_has_digits n)

-- words
pub word_takes : (text : List ℕ) (w : ℕ) → word_at text ≡ Some w → (octal w ≡ text) × (nat_lt w (2 ^ 36) ≡ true)
word_takes text w e =
    let n = bind_some (octal_number 12 text) _ w e in
    let fits = when_some (nat_lt n.0 (2 ^ 36)) n.0 w n.2 in
    let P : ℕ → Type 0 = λ w. (octal w ≡ text) × (nat_lt w (2 ^ 36) ≡ true) in
    subst P fits.1 (sym (octal_number_takes 12 text n.0 n.1).0, fits.0)

pub word_again : (w : ℕ) → nat_lt w (2 ^ 36) ≡ true → word_at (octal w) ≡ Some w
word_again w e =
    let low : w < 8 ^ 12 = omega (arith, below w (2 ^ 36) e) in
    let some : 0 < 12 = omega arith in
    rw (octal_number_fits 12 w low some, e) refl

pub word_free : (w : ℕ) → is_free 10 (octal w) ≡ true
word_free w = octal_free 10 w refl

-- a text without a byte has no cut there
pub cut_none : (byte : ℕ) (text : List ℕ) → is_free byte text ≡ true → cut_at byte text ≡ None
unfolding cut_at
cut_none byte [] e = refl
cut_none byte (c ∷ cs) e =
    let f = both (not (c == byte)) (is_free byte cs) e in rw (fails (c == byte) f.0, cut_none byte cs f.1) refl

-- the version
pub version_small : (text : List ℕ) (n : ℕ) → decimal_number 1 text ≡ Some n → n < 10
version_small text n e = let most : 10 ^ 1 ≤ 2 ^ 64 = omega arith in (number_takes 1 text n most e).1

pub version_takes : (text : List ℕ) (n : ℕ) → decimal_number 1 text ≡ Some n → decimal n ≡ text
version_takes text n e = let most : 10 ^ 1 ≤ 2 ^ 64 = omega arith in (number_takes 1 text n most e).0

small_version : (n : ℕ) → is_version n ≡ true → n ≤ 4
small_version n e = at_most n 4 (both (nat_le 1 n) (nat_le n greatest_version) e).1

pub version_again : (n : ℕ) → is_version n ≡ true → decimal_number 1 (decimal n) ≡ Some n
version_again n e =
    let small = small_version n e in
    let below : n < 10 ^ 1 = omega arith in
    number_again 1 n (omega arith) below (omega arith)

pub version_free : (n : ℕ) → is_version n ≡ true → is_free 10 (decimal n) ≡ true
version_free n e = let small = small_version n e in number_free 10 n refl (omega arith)

-- the limit
pub history_takes : (text : List ℕ) (n : ℕ) → decimal_number 6 text ≡ Some n → decimal n ≡ text
history_takes text n e = let most : 10 ^ 6 ≤ 2 ^ 64 = omega arith in (number_takes 6 text n most e).0

small_history : (n : ℕ) → is_history n ≡ true → n ≤ 262143
small_history n e = at_most n 262143 (both (nat_le 1 n) (nat_le n 262143) e).1

pub history_again : (n : ℕ) → is_history n ≡ true → decimal_number 6 (decimal n) ≡ Some n
history_again n e =
    let small = small_history n e in
    let below : n < 10 ^ 6 = omega arith in
    number_again 6 n (omega arith) below (omega arith)

pub history_free : (n : ℕ) → is_history n ≡ true → is_free 10 (decimal n) ≡ true
history_free n e = let small = small_history n e in number_free 10 n refl (omega arith)

-- the lowest class is the one that equals it
lowest_is : (class : PlainClass) → equals class lowest ≡ true → class ≡ lowest
lowest_is class e =
    let f = both (nat_eq class.level 0) (nat_eq class.categories 0) e in
    let level : class.level ≡ 0 = eqb-true class.level 0 f.0 in
    let categories : class.categories ≡ 0 = eqb-true class.categories 0 f.1 in
    ap (λ (n : ℕ). record { level = n; categories = class.categories }) level
    ∙ ap (λ (n : ℕ). record { level = 0; categories = n }) categories

-- what is read as a class that is written out
record IsWritten (text : List ℕ) (class : PlainClass) : Type 0 where
  pub spelled : class_text class ≡ text
  pub fits : is_class class ≡ true
  pub above : equals class lowest ≡ false

written_takes : (text : List ℕ) (class : PlainClass) → written_class text ≡ Some class → IsWritten text class
written_takes text class e =
    let read = bind_some (class_of_text text) _ class e in
    let found = when_some (not (equals read.0 lowest)) read.0 class read.2 in
    subst (IsWritten text) found.1 (record {
      spelled = class_text-class_of_text text read.0 read.1;
      fits = class_fits text read.0 read.1;
      above = fails (equals read.0 lowest) found.0;
    })

written_again : (class : PlainClass) → is_class class ≡ true → equals class lowest ≡ false → written_class (class_text class) ≡ Some class
written_again class e other = rw (class_of_text-class_text class (class_is class e), other) refl

-- a principal, with a class where it is written out
pub record IsEntrant (text : List ℕ) (told : Entrant) : Type 0 where
  pub spelled : entrant_text told ≡ text
  pub fits : fits (row.Process told) ≡ true

part_above : (class : PlainClass) → equals class lowest ≡ false → class_part class ≡ codes " " ++ class_text class
part_above class e = rw e refl

entrant_on : (text : List ℕ) (cut : Option (List ℕ × List ℕ)) (told : Entrant) → cut_at 32 text ≡ cut
    → entrant_of text cut ≡ Some told → IsEntrant text told
entrant_on text None told c e =
    let who = bind_some (principal_of text) _ told e in
    let name = principal_takes text who.0 who.1 in
    subst (IsEntrant text) (some_is _ _ who.2) (record {
      spelled = append-nil (principal_text who.0) ∙ name.0;
      fits = both_hold _ _ (no_fault (components_fault who.0) name.1) refl;
    })
entrant_on text (Some p) told c e =
    let who = bind_some (principal_of p.0) _ told e in
    let class = bind_some (written_class p.1) _ told who.2 in
    let name = principal_takes p.0 who.0 who.1 in
    let is = written_takes p.1 class.0 class.1 in
    subst (IsEntrant text) (some_is _ _ class.2) (record {
      spelled = ap (λ part. principal_text who.0 ++ part) (part_above class.0 is.above)
          ∙ joined (principal_text who.0) p.0 (class_text class.0) p.1 name.0 is.spelled ∙ sym (cut_takes 32 text p c).0;
      fits = both_hold _ _ (no_fault (components_fault who.0) name.1) is.fits;
    })
  where
    joined : (a b c d : List ℕ) → a ≡ b → c ≡ d → a ++ (codes " " ++ c) ≡ b ++ 32 ∷ d
    joined a b c d e f = rw (e, f) refl

pub entrant_takes : (text : List ℕ) (told : Entrant) → entrant_at text ≡ Some told → IsEntrant text told
entrant_takes text told e = entrant_on text (cut_at 32 text) told refl e

pub entrant_again : (told : Entrant) → fits (row.Process told) ≡ true → entrant_at (entrant_text told) ≡ Some told
entrant_again told e =
    let f = both _ (is_class told.authorization) e in
    let name = faultless (components_fault told.who) f.0 in
    by_class name f.1 (equals told.authorization lowest) refl
  where
    by_class : IsPrincipal told.who → is_class told.authorization ≡ true → (test : Bool) → equals told.authorization lowest ≡ test
        → entrant_at (entrant_text told) ≡ Some told
    by_class name is true t =
        let same = lowest_is told.authorization t in
        let free : is_free 32 (principal_text told.who) ≡ true = principal_is_free 32 told.who refl refl name in
        ap (λ (class : PlainClass). entrant_at (entrant_text (entrant told.who class))) same
        ∙ ap entrant_at (append-nil (principal_text told.who))
        ∙ rw (cut_none 32 (principal_text told.who) free, principal_again told.who name) refl
        ∙ ap (λ (class : PlainClass). Some (entrant told.who class)) (sym same)
    by_class name is false t =
        let free : is_free 32 (principal_text told.who) ≡ true = principal_is_free 32 told.who refl refl name in
        ap (λ part. entrant_at (principal_text told.who ++ part)) (part_above told.authorization t)
        ∙ rw (
          cut_again 32 (principal_text told.who) (class_text told.authorization) free,
          principal_again told.who name,
          written_again told.authorization is t,
        ) refl

pub entrant_free : (told : Entrant) → fits (row.Process told) ≡ true → is_free 10 (entrant_text told) ≡ true
entrant_free told e =
    let f = both _ (is_class told.authorization) e in
    list_all-append _ (principal_text told.who) (class_part told.authorization)
    ∙ both_hold _ _ (principal_is_free 10 told.who refl refl (faultless (components_fault told.who) f.0))
    (by_class (equals told.authorization lowest) refl)
  where
    by_class : (test : Bool) → equals told.authorization lowest ≡ test → is_free 10 (class_part told.authorization) ≡ true
    by_class true t = rw t refl
    by_class false t = rw t (class_free 10 told.authorization refl refl)
