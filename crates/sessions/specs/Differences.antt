-- Where two texts differ.
use Rattle.std.specs.Prelude.{ℕ, ◌+◌, ◌==◌, List, take, count_by}
use Rattle.std.specs.List.{common_prefix_len}

-- the byte that ends a line
abbrev pub newline : ℕ
newline = 10

-- the line, counted from 1, on which the byte at this place stands
abbrev pub line_at : List ℕ → ℕ → ℕ
line_at text place = count_by (λ byte. byte == newline) (take place text) + 1

-- the line of the first byte at which two texts differ; a text that ends there has none
abbrev pub differing_line : List ℕ → List ℕ → ℕ
differing_line text other = line_at text (common_prefix_len (λ byte its_other. byte == its_other) text other)
