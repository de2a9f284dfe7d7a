-- A line as its pieces: what stands between its spaces.
use Rattle.std.specs.Prelude.{ℕ, ◌==◌, List, [], Option, None, Some}
use Rattle.std.specs.List.{slice_split}
use Rattle.mx_name.specs.Cuts.{cut_at}

-- a line without a space is one piece, and two spaces side by side have an empty one between them
abbrev pub pieces_of : List ℕ → List (List ℕ)
pieces_of line = slice_split (λ byte. byte == 32) line

-- those of what is left, where something is
abbrev pub pieces_left : Option (List ℕ) → List (List ℕ)
pieces_left None = []
pieces_left (Some text) = pieces_of text

-- the text before the first such byte; all of it where there is none
abbrev pub front_or : List ℕ → Option (List ℕ × List ℕ) → List ℕ
front_or text None = text
front_or text (Some parts) = parts.0

abbrev pub first_piece : List ℕ → List ℕ
first_piece line = front_or line (cut_at 32 line)

-- the text behind the first such byte; all of it where there is none
abbrev pub rest_or : List ℕ → Option (List ℕ × List ℕ) → List ℕ
rest_or text None = text
rest_or text (Some parts) = parts.1
