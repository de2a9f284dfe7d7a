-- How it is told what lines came to: an outcome a line, in how many runs it came, and in which order first.
use Rattle.std.specs.Prelude.{ℕ, ◌-◌, List, [], ◌∷◌, ◌++◌, length, replicate, Option, None, Some, codes}
use Rattle.std.specs.Fmt.{decimal}
use Rattle.std.specs.List.{find, flat_map}
use Rattle.mx_outcomes.specs.Tallies.{is_of}
use Rattle.mx_outcomes.specs.declared.tallies.Row.{Row}

-- what the first of these lines came to
abbrev pub text_of : List (List ℕ) → List ℕ
text_of [] = []
text_of (text ∷ texts) = text

-- a text and blanks, at least 28 bytes
abbrev pub padded : List ℕ → List ℕ
padded text = text ++ replicate (28 - length text) 32

abbrev pub step_text : ℕ → List ℕ
step_text process = codes " " ++ decimal process

abbrev pub order_text : List ℕ → List ℕ
order_text order = flat_map step_text order

-- how often, and in which order first
abbrev pub times_text : Option Row → List ℕ
times_text None = codes " never\n"
times_text (Some row) = codes " in " ++ decimal row.times ++ codes ", first" ++ order_text row.first ++ codes "\n"

-- of a line: each of its outcomes
abbrev pub row_text : Row → List ℕ
row_text row = codes "    " ++ padded (text_of row.outcomes) ++ times_text (Some row)

abbrev pub rows_text : List Row → List ℕ
rows_text rows = flat_map row_text rows

-- of two lines: behind each outcome of the one, each outcome of the other, and whether they come together
abbrev pub together : List Row → Row → Row → Option Row
together both one other = find (is_of (text_of one.outcomes ∷ text_of other.outcomes ∷ [])) both

abbrev pub other_text : List Row → Row → Row → List ℕ
other_text both one other = codes "    " ++ padded (text_of other.outcomes) ++ times_text (together both one other)

abbrev pub one_text : List Row → List Row → Row → List ℕ
one_text others both one = codes "  " ++ text_of one.outcomes ++ codes "\n" ++ flat_map (other_text both one) others

abbrev pub pairs_text : List Row → List Row → List Row → List ℕ
pairs_text ones others both = flat_map (one_text others both) ones
