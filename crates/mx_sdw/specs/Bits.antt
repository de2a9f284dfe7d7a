-- Fields of bits in a number, as word layouts are drawn.
use Rattle.std.specs.Prelude.{ℕ, ◌/◌, ◌%◌, ◌^◌, nat_eq, Bool, true, false}

-- so many bits of a number, from this one on; bit 0 is the lowest
abbrev pub bits : ℕ → ℕ → ℕ → ℕ
bits n first count = n / 2 ^ first % 2 ^ count

-- a flag as a bit
abbrev pub flag_bit : Bool → ℕ
flag_bit true = 1
flag_bit false = 0

-- whether a bit of a number is set
abbrev pub has_bit : ℕ → ℕ → Bool
has_bit n place = nat_eq (bits n place 1) 1
