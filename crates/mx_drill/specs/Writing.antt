-- Helpers that only private contracts cite: the text of some lines of a session.
use Rattle.std.specs.Prelude.{ℕ, List, map}
use Rattle.mx_script.specs.SessionTexts.{row_text, lines_text}
use Rattle.mx_script.specs.declared.rows.Row.{Row}

abbrev pub rows_text : List Row → List ℕ
rows_text rows = lines_text (map row_text rows)
