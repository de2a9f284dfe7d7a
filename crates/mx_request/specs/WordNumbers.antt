-- The number of a word in its segment: octal, up to 37777.
use Rattle.std.specs.Prelude.{ℕ, nat_le, List, Option}
use Rattle.mx_sdw.specs.Octal.{octal_number}
use Rattle.mx_request.specs.Steps.{◌>>=◌, when}

-- the word number that a text spells
abbrev pub word_number_of : List ℕ → Option ℕ
word_number_of text = octal_number 5 text >>= λ word. when (nat_le word 16383) word
