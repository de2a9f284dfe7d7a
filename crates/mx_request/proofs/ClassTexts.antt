-- Laws of classes of access isolation in a line: what is read as one fits, and one that fits is a class.
use Rattle.std.proofs.Common.{◌≡◌, ℕ, ◌==◌, ◌-◌, ◌<◌, ◌^◌, nat_le, nat_lt, nat_eq, Bool, true, false, ◌&&◌, List, [], ◌∷◌, ◌++◌, Option, Some, None, if◌then◌else◌, codes, refl, subst, arith, ◌∙◌}
use Rattle.std.proofs.lemmas.Bool.Decides.{nat_tests}
use Rattle.std.proofs.lemmas.List.Folds.{list_all-append}
use Rattle.std.specs.Option.{option_map}
use Rattle.mx_name.proofs.TextLaws.{all_free}
use Rattle.mx_name.specs.Names.{is_free}
use Rattle.mx_sdw.proofs.OctalLaws.{octal_number_below, octal_has_digits}
use Rattle.mx_sdw.specs.Octal.{is_octal_digit, octal, octal_number}
use Rattle.mx_aim.specs.Classes.{PlainClass, IsClass, class_text, class_of_text}
use Rattle.mx_request.proofs.FieldLaws.{at_most}
use Rattle.mx_request.proofs.StepLaws.{both, both_hold}
use Rattle.mx_request.specs.RequestTexts.{is_class}

below : (n : ℕ) → nat_lt n (2 ^ 18) ≡ true → n < 2 ^ 18
below n e = grind (arith, nat_tests)

pub class_is : (class : PlainClass) → is_class class ≡ true → IsClass class
class_is class e =
    let f = both (nat_le class.level 7) (nat_lt class.categories (2 ^ 18)) e in
    record { level = at_most class.level 7 f.0; categories = below class.categories f.1 }

-- what a text spells
few_categories : (n : ℕ) → n < 8 ^ 6 → nat_lt n (2 ^ 18) ≡ true
few_categories n h = grind (arith, nat_tests)

low_level : (l m : ℕ) → (is_octal_digit l && nat_eq m 58) ≡ true → nat_le (l - 48) 7 ≡ true
low_level l m e = grind (arith, nat_tests)

read_fits : (l m : ℕ) (rest : List ℕ) (class : PlainClass) (tests : Bool) (number : Option ℕ) → (is_octal_digit l && nat_eq m 58) ≡ tests
    → octal_number 6 rest ≡ number
    → (if tests then option_map (λ n. record { level = l - 48; categories = n }) number else None) ≡ Some class → is_class class ≡ true
read_fits l m rest class false number t e is = cc
read_fits l m rest class true None t e is = cc
read_fits l m rest class true (Some n) t e is =
    let same : record { level = l - 48; categories = n } ≡ class = cc in
    subst (λ c. is_class c ≡ true) same (both_hold _ _ (low_level l m t) (few_categories n (octal_number_below 6 rest n e)))

pub class_fits : (text : List ℕ) (class : PlainClass) → class_of_text text ≡ Some class → is_class class ≡ true
class_fits [] class e = cc
class_fits (l ∷ []) class e = cc
class_fits (l ∷ m ∷ rest) class e = read_fits l m rest class (is_octal_digit l && nat_eq m 58) (octal_number 6 rest) refl refl e

-- a class has octal digits and a colon
digits_free : (byte n : ℕ) → is_octal_digit byte ≡ false → is_free byte (octal n) ≡ true
digits_free byte n other = all_free is_octal_digit byte (octal n) other (octal_has_digits n)

pub class_free : (byte : ℕ) (class : PlainClass) → is_octal_digit byte ≡ false → (58 == byte) ≡ false → is_free byte (class_text class) ≡ true
class_free byte class other colon =
    list_all-append _ (octal class.level ++ codes ":") (octal class.categories)
    ∙ both_hold _ _ (list_all-append _ (octal class.level) (codes ":") ∙ both_hold _ _ (digits_free byte class.level other) (rw colon refl))
    (digits_free byte class.categories other)
