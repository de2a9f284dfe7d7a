-- The number of a drill, as it is written: 1 to 6 decimal digits, which may begin with zeros.
use Rattle.std.specs.Prelude.{◌≡◌, ℕ, ◌≤◌, true, List, length, Option, None, Some}
use Rattle.std.specs.Char.{is_ascii_digit}
use Rattle.std.specs.List.{list_all}
use Rattle.std.specs.Str.Parse.{digits_value}

pub record IsNumber (digits : List ℕ) (number : ℕ) : Type 0 where
  pub some : 1 ≤ length digits
  pub few : length digits ≤ 6
  pub decimal : list_all is_ascii_digit digits ≡ true
  pub value : digits_value 10 digits ≡ number

-- the number that digits spell, or that there is none
abbrev pub IsNumberOf : List ℕ → Option ℕ → Type 0
IsNumberOf digits None = (number : ℕ) → IsNumber digits number → ⊥
IsNumberOf digits (Some number) = IsNumber digits number
