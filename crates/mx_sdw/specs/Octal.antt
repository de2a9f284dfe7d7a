-- Octal numbers, with one spelling for each: no leading zero, but of 0 itself.
use Rattle.std.specs.Prelude.{ℕ, zero, suc, ◌+◌, ◌-◌, ◌*◌, ◌/◌, ◌%◌, nat_eq, nat_le, nat_lt, Bool, true, false, not, ◌&&◌, if◌then◌else◌, List, [], ◌∷◌, ◌++◌, length, Option, Some, None}
use Rattle.std.specs.List.{list_all}

-- a byte from '0' to '7'
abbrev pub is_octal_digit : ℕ → Bool
is_octal_digit byte = nat_le 48 byte && nat_lt byte 56

-- a text that begins as a number does: with a digit that is not '0', or with its only digit
abbrev pub begins_number : List ℕ → Bool
begins_number [] = false
begins_number (byte ∷ []) = true
begins_number (byte ∷ next ∷ rest) = not (nat_eq byte 48)

-- a text that spells a number
abbrev pub is_octal : List ℕ → Bool
is_octal text = begins_number text && list_all is_octal_digit text

-- the number that digits give after those of a number
abbrev pub value_after : ℕ → List ℕ → ℕ
value_after number [] = number
value_after number (byte ∷ rest) = value_after (8 * number + (byte - 48)) rest

-- the number that digits give
abbrev pub octal_value : List ℕ → ℕ
octal_value text = value_after 0 text

-- the number that a text of at most so many digits spells
unfoldable pub octal_number : ℕ → List ℕ → Option ℕ
octal_number digits text = if is_octal text && nat_le (length text) digits then Some (octal_value text) else None

-- the spelling of a number, where k bounds its number of digits: that of an eighth, and the last digit
unfoldable pub octal_within : ℕ → ℕ → List ℕ
octal_within zero number = []
octal_within (suc k) number = if nat_lt number 8 then (48 + number) ∷ [] else octal_within k (number / 8) ++ (48 + number % 8) ∷ []

-- the spelling of a number, which has fewer digits than the number is large
unfoldable pub octal : ℕ → List ℕ
octal number = octal_within (suc number) number
