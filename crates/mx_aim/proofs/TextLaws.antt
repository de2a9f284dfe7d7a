-- A class and its text give each other back.
use Rattle.std.proofs.Common.{◌≡◌, ℕ, ◌+◌, ◌-◌, ◌<◌, ◌≤◌, ◌^◌, nat_eq, Bool, true, false, ◌&&◌, List, [], ◌∷◌, Option, Some, None, if◌then◌else◌, refl, subst, arith, lit<}
use Rattle.std.proofs.lemmas.Bool.Decides.{nat_tests}
use Rattle.std.specs.Option.{option_map}
use Rattle.mx_sdw.specs.Octal.{is_octal_digit, octal, octal_number}
use Rattle.mx_sdw.proofs.OctalLaws.{octal_small, octal_number_fits, octal_number_takes}
use Rattle.mx_aim.specs.Classes.{PlainClass, IsClass, class_text, class_of_text}

-- a level is one digit
level_digit : (level : ℕ) → level ≤ 7 → (is_octal_digit (48 + level) && nat_eq 58 58) ≡ true
level_digit level h = grind (arith, nat_tests)

class_read : (digit level n : ℕ) (text : List ℕ) → (is_octal_digit digit && nat_eq 58 58) ≡ true → digit - 48 ≡ level → octal_number 6 text ≡ Some n
    → class_of_text (digit ∷ 58 ∷ text) ≡ Some (record { level = level; categories = n })
class_read digit level n text is_digit same spelled = rw (is_digit, same, spelled) refl

pub class_of_text-class_text : (c : PlainClass) → IsClass c → class_of_text (class_text c) ≡ Some c
class_of_text-class_text c h =
    let few : c.categories < 8 ^ 6 = omega (arith, h.categories) in
    let small : c.level < 8 = omega (arith, h.level) in
    rw (octal_small c.level small)
    (class_read (48 + c.level) c.level c.categories (octal c.categories) (level_digit c.level h.level) (omega arith)
    (octal_number_fits 6 c.categories few (lit< tt)))

-- what a text spells is spelled so
from_48 : (l m : ℕ) → (is_octal_digit l && nat_eq m 58) ≡ true → 48 ≤ l
from_48 l m h = grind (arith, nat_tests)

below_56 : (l m : ℕ) → (is_octal_digit l && nat_eq m 58) ≡ true → l < 56
below_56 l m h = grind (arith, nat_tests)

is_colon : (l m : ℕ) → (is_octal_digit l && nat_eq m 58) ≡ true → m ≡ 58
is_colon l m h = grind (arith, nat_tests)

module _ (l m : ℕ) (rest : List ℕ) where
  spelled : (n : ℕ) → (is_octal_digit l && nat_eq m 58) ≡ true → rest ≡ octal n
      → class_text (record { level = l - 48; categories = n }) ≡ l ∷ m ∷ rest
  spelled n h e =
      let from : 48 ≤ l = from_48 l m h in
      let below : l < 56 = below_56 l m h in
      let small : l - 48 < 8 = omega arith in
      let back : 48 + (l - 48) ≡ l = omega arith in
      rw (octal_small (l - 48) small, back, is_colon l m h, e) refl

  taken : (c : PlainClass) (tests : Bool) (number : Option ℕ) → (is_octal_digit l && nat_eq m 58) ≡ tests → octal_number 6 rest ≡ number
      → (if tests then option_map (λ n. record { level = l - 48; categories = n }) number else None) ≡ Some c → class_text c ≡ l ∷ m ∷ rest
  taken c false number t e is = cc
  taken c true None t e is = cc
  taken c true (Some n) t e is =
      let same : record { level = l - 48; categories = n } ≡ c = cc in
      subst (λ c. class_text c ≡ l ∷ m ∷ rest) same (spelled n t (octal_number_takes 6 rest n e).0)

pub class_text-class_of_text : (text : List ℕ) (c : PlainClass) → class_of_text text ≡ Some c → class_text c ≡ text
class_text-class_of_text [] c h = cc
class_text-class_of_text (l ∷ []) c h = cc
class_text-class_of_text (l ∷ m ∷ rest) c h =
    taken l m rest c (is_octal_digit l && nat_eq m 58) (octal_number 6 rest) refl refl h
