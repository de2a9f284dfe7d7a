-- Decimal numbers, with one spelling for each: no leading zero, but of 0 itself.
use Rattle.std.specs.Prelude.{ℕ, ◌+◌, ◌-◌, ◌*◌, nat_le, nat_lt, Bool, ◌&&◌, List, [], ◌∷◌, length, Option}
use Rattle.std.specs.List.{list_all}
use Rattle.mx_sdw.specs.Octal.{begins_number}
use Rattle.mx_request.specs.Steps.{when}

-- a byte from '0' to '9'
abbrev pub is_digit : ℕ → Bool
is_digit c = nat_le 48 c && nat_lt c 58

-- the number that decimal digits give after those of n
abbrev pub decimal_after : ℕ → List ℕ → ℕ
decimal_after n [] = n
decimal_after n (c ∷ rest) = decimal_after (10 * n + (c - 48)) rest

-- the number that a text of at most so many decimal digits spells
unfoldable pub decimal_number : ℕ → List ℕ → Option ℕ
decimal_number digits text =
    when (begins_number text && (list_all is_digit text && nat_le (length text) digits)) (decimal_after 0 text)
