-- Cell words, of 64 bits: a word of the protected memory beside who wrote it and when. The layout is this model's own.
use Rattle.std.specs.Prelude.{ℕ, ◌+◌, ◌*◌, ◌^◌, nat_lt, Option, Some, None, if◌then◌else◌}
use Rattle.mx_sdw.specs.Bits.{bits}

-- bits 57 to 54 are the writer, bits 53 to 36 the stamp, bits 35 to 0 the value, all others zero
abbrev pub cell_word : ℕ → ℕ → ℕ → ℕ
cell_word value writer stamp = writer * 2 ^ 54 + stamp * 2 ^ 36 + value

-- the value in a cell
abbrev pub value_in : ℕ → ℕ
value_in n = bits n 0 36

-- the process that wrote it, 0 where none did
abbrev pub writer_in : ℕ → ℕ
writer_in n = bits n 54 4

-- how many entries the journal had at the point of that write
abbrev pub stamp_in : ℕ → ℕ
stamp_in n = bits n 36 18

-- the cell word of a number: the words are the numbers below 2 ^ 58
abbrev pub cell_word_of : ℕ → Option ℕ
cell_word_of n = if nat_lt n (2 ^ 58) then Some n else None
