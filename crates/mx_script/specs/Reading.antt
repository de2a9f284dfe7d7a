-- Helpers that only private contracts cite: what each line is read as.
use Rattle.std.specs.Prelude.{◌≡◌, ℕ, ◌==◌, true, List, [], ◌∷◌, Option, None, Some, codes, if◌then◌else◌}
use Rattle.std.specs.Cmp.Lexicographic.{pointwise}
use Rattle.mx_request.specs.Decimals.{decimal_number}
use Rattle.mx_request.specs.Steps.{◌>>=◌, when}
use Rattle.mx_script.specs.Fronts.{after, read_or}
use Rattle.mx_script.specs.Fields.{entrant_at, operand_at, register_operand_at, word_at}
use Rattle.mx_script.specs.Sessions.{is_version, is_history}
use Rattle.mx_script.specs.SessionTexts.{row_text, fits}
use Rattle.mx_script.specs.declared.lines.Line.{Line}
use Rattle.mx_script.specs.declared.lines.Line.TheVariants.{Set, Epp, Lda, Sta, Spri, Fetch, Call, Return}
use Rattle.mx_script.specs.declared.rows.Row.{Row}
use Rattle.mx_script.specs.declared.rows.Row.TheVariants as row

-- a text is that of a row
pub record IsRow (text : List ℕ) (r : Row) : Type 0 where
  pub spelled : row_text r ≡ text
  pub fits : fits r ≡ true

abbrev pub set_at : List ℕ → Option Line
set_at text = word_at text >>= λ word. Some (Set word)

abbrev pub epp_at : List ℕ → Option Line
epp_at text = register_operand_at text >>= λ p. Some (Epp p.0 p.1)

abbrev pub lda_at : List ℕ → Option Line
lda_at text = operand_at text >>= λ operand. Some (Lda operand)

abbrev pub sta_at : List ℕ → Option Line
sta_at text = operand_at text >>= λ operand. Some (Sta operand)

abbrev pub spri_at : List ℕ → Option Line
spri_at text = register_operand_at text >>= λ p. Some (Spri p.0 p.1)

abbrev pub call_at : List ℕ → Option Line
call_at text = operand_at text >>= λ operand. Some (Call operand)

abbrev pub return_at : List ℕ → Option Line
return_at text = operand_at text >>= λ operand. Some (Return operand)

-- a memory line with fields, by its front
unfoldable pub memory_at : List ℕ → Option Line
memory_at text =
    read_or (after (codes "set ") text) set_at
    (read_or (after (codes "epp ") text) epp_at
    (read_or (after (codes "lda ") text) lda_at
    (read_or (after (codes "sta ") text) sta_at
    (read_or (after (codes "spri ") text) spri_at
    (read_or (after (codes "call ") text) call_at
    (read_or (after (codes "return ") text) return_at None))))))

abbrev pub of_line : Option Line → Option Row
of_line line = line >>= λ line. Some (row.Line line)

abbrev pub memory_row : List ℕ → Option Row
memory_row text = of_line (memory_at text)

-- a text's first byte
abbrev pub head : List ℕ → Option ℕ
head [] = None
head (c ∷ cs) = Some c

-- a load or a store of the accumulator: most lines of a session are such
abbrev pub load_row : List ℕ → Option Row
load_row text = lda_at text >>= λ line. Some (row.Line line)

abbrev pub store_row : List ℕ → Option Row
store_row text = sta_at text >>= λ line. Some (row.Line line)

unfoldable pub accumulator_at : List ℕ → Option Row
accumulator_at text =
    read_or (after (codes "lda ") text) load_row (read_or (after (codes "sta ") text) store_row None)

-- the version
abbrev pub header_row : List ℕ → Option Row
header_row text = decimal_number 1 text >>= λ version. when (is_version version) (row.Header version)

-- the limit of the journal
abbrev pub history_row : List ℕ → Option Row
history_row text = decimal_number 6 text >>= λ limit. when (is_history limit) (row.History limit)

-- a line that holds no text: the end, the version, the limit or a memory line
unfoldable pub plain_at : List ℕ → Option Row
plain_at text =
    if pointwise ◌==◌ text (codes "end") then Some row.End
    else (if pointwise ◌==◌ text (codes "fetch") then Some (row.Line Fetch)
    else read_or (after (codes "multics ") text) header_row
    (read_or (after (codes "history ") text) history_row (memory_row text)))

abbrev pub entrant_row : List ℕ → Option Row
entrant_row text = entrant_at text >>= λ entrant. Some (row.Process entrant)

-- the line that begins a process
unfoldable pub process_at : List ℕ → Option Row
process_at text = read_or (after (codes "process ") text) entrant_row None
