-- Classes of access isolation (Multics Administrators' Manual): a level from 0 to 7, and a set of 18 categories. An
-- authorization of a process is a class, and so is the class of a segment.
use Rattle.std.specs.Prelude.{ℕ, ◌-◌, ◌^◌, ◌<◌, ◌≤◌, nat_eq, nat_le, Bool, not, ◌&&◌, ◌||◌, if◌then◌else◌, List, ◌∷◌, ◌++◌, codes, Option, None}
use Rattle.std.specs.Int.{bit_at}
use Rattle.std.specs.List.{list_all, range_with_len}
use Rattle.std.specs.Option.{option_map}
use Rattle.mx_sdw.specs.declared.descriptors.Aim.{Aim}
use Rattle.mx_sdw.specs.declared.descriptors.Aim.TheVariants.{Equal, Dominates, Neither}
use Rattle.mx_sdw.specs.Octal.{is_octal_digit, octal, octal_number}

-- a level, and the categories as the bits of a number
pub record PlainClass : Type 0 where
  pub level : ℕ
  pub categories : ℕ

-- there are eight levels and 18 categories
pub record IsClass (class : PlainClass) : Type 0 where
  pub level : class.level ≤ 7
  pub categories : class.categories < 2 ^ 18

-- the class of everything where nobody speaks of classes
abbrev pub lowest : PlainClass
lowest = record { level = 0; categories = 0 }

-- whether a category is in the set
abbrev pub has_category : PlainClass → ℕ → Bool
has_category class category = nat_eq (bit_at class.categories category) 1

-- whether the one class has each category of the other
abbrev pub has_all_categories : PlainClass → PlainClass → Bool
has_all_categories class other = list_all (λ category. not (has_category other category) || has_category class category) (range_with_len 0 18)

-- a class dominates another where its level is at least as high and its categories are a superset
abbrev pub dominates : PlainClass → PlainClass → Bool
dominates class other = nat_le other.level class.level && has_all_categories class other

abbrev pub equals : PlainClass → PlainClass → Bool
equals class other = nat_eq class.level other.level && nat_eq class.categories other.categories

-- how an authorization stands to a class
abbrev pub aim_of : PlainClass → PlainClass → Aim
aim_of authorization class =
    if equals authorization class then Equal else (if dominates authorization class then Dominates else Neither)

-- the text of a class: its level, one digit, and its categories in octal
abbrev pub class_text : PlainClass → List ℕ
class_text class = octal class.level ++ codes ":" ++ octal class.categories

-- the class that a text spells
abbrev pub class_of_text : List ℕ → Option PlainClass
class_of_text (level ∷ colon ∷ categories) =
    if is_octal_digit level && nat_eq colon 58
    then option_map (λ number. record { level = level - 48; categories = number }) (octal_number 6 categories)
    else None
class_of_text other = None
