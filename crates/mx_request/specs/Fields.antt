-- A line is its fields, with exactly one blank between each two.
use Rattle.std.specs.Prelude.{ℕ, ◌+◌, Bool, List, [], ◌∷◌, ◌++◌, is_none, codes}
use Rattle.std.specs.List.{join_with_byte}
use Rattle.mx_name.specs.Names.{name_fault}
use Rattle.mx_sdw.specs.Octal.{octal}

abbrev pub line_of : List (List ℕ) → List ℕ
line_of fields = join_with_byte 32 fields

-- a ring is written as one digit
abbrev pub ring_text : ℕ → List ℕ
ring_text ring = (48 + ring) ∷ []

-- an entry name is written as it is
abbrev pub is_name : List ℕ → Bool
is_name name = is_none (name_fault name)

-- the address `S|W` of a word: its segment's number and its own, in octal
abbrev pub address_text : ℕ → ℕ → List ℕ
address_text segno word = octal segno ++ codes "|" ++ octal word
