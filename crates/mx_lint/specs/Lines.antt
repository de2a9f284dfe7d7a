-- The lines of a text by their numbers, counted from 1.
use Rattle.std.specs.Prelude.{ℕ, zero, suc, ◌-◌, List, [], Option, Some, None, Bool}
use Rattle.std.specs.Option.{is_none}
use Rattle.mx_name.specs.Cuts.{cut_at}

-- what follows the first newline; nothing where there is none
abbrev pub behind_line : Option (List ℕ × List ℕ) → List ℕ
behind_line None = []
behind_line (Some p) = p.1

-- what is left of a text after so many of its lines
abbrev pub without_lines : ℕ → List ℕ → List ℕ
without_lines zero text = text
without_lines (suc n) text = behind_line (cut_at 10 (without_lines n text))

-- the text before the first newline; all of it where there is none
abbrev pub before_newline : List ℕ → Option (List ℕ × List ℕ) → List ℕ
before_newline text None = text
before_newline text (Some p) = p.0

abbrev pub first_line : List ℕ → List ℕ
first_line text = before_newline text (cut_at 10 text)

-- whether no newline follows
abbrev pub is_last : List ℕ → Bool
is_last text = is_none (cut_at 10 text)

-- the text of the line of this number
abbrev pub line_of : ℕ → List ℕ → List ℕ
line_of number text = first_line (without_lines (number - 1) text)
