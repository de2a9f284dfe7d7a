-- A text that may have titles: lines that begin with `#`.
use Rattle.std.specs.Prelude.{ℕ, ◌==◌, Bool, false, List, [], ◌∷◌, ◌++◌, if◌then◌else◌}
use Rattle.std.specs.List.{onto_first}

-- the lines of a text, each with its newline; the last one may be without
unfoldable pub lines_of : List ℕ → List (List ℕ)
lines_of [] = []
lines_of (byte ∷ text) = if byte == 10 then (byte ∷ []) ∷ lines_of text else onto_first byte (lines_of text)

-- a line that begins with `#`
abbrev pub is_title : List ℕ → Bool
is_title [] = false
is_title (byte ∷ line) = byte == 35

-- lines, one after another, without the titles
abbrev pub untitled : List (List ℕ) → List ℕ
untitled [] = []
untitled (line ∷ lines) = if is_title line then untitled lines else line ++ untitled lines

-- the text without its titles
abbrev pub plain_text : List ℕ → List ℕ
plain_text text = untitled (lines_of text)
