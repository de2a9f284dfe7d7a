-- Words of 36 bits.
use Rattle.std.specs.Prelude.{ℕ, ◌^◌, nat_lt, Option, Some, None, if◌then◌else◌}

-- the word of a number: the words are the numbers below 2 ^ 36
abbrev pub word_of : ℕ → Option ℕ
word_of n = if nat_lt n (2 ^ 36) then Some n else None
