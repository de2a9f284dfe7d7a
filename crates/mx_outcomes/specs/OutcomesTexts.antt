-- The text of `outcomes`: each line of the scripts with what it came to in the runs in all orders, or two of them together.
use Rattle.std.specs.Prelude.{◌≡◌, ◌⊎◌, ◌<◌, ◌≤◌, ◌+◌, ◌==◌, ◌&&◌, ℕ, Bool, List, [], ◌∷◌, ◌++◌, length, get_or, Option, None, Some, codes, if◌then◌else◌}
use Rattle.std.specs.Fmt.{decimal}
use Rattle.mx_outcomes.specs.Explored.{IsExplored, count_of, most_orders}
use Rattle.mx_script.specs.Sessions.{Outline}
use Rattle.mx_script.specs.SessionTexts.{line_text}
use Rattle.mx_script.specs.declared.lines.Line.{Line}
use Rattle.mx_outcomes.specs.Tallies.{Tallied, tallied}
use Rattle.mx_outcomes.specs.RowTexts.{rows_text, pairs_text}
use Rattle.mx_outcomes.specs.declared.tallies.Row.{Row}
use Rattle.mx_transcript.specs.Scripts.{first_line}

-- a line of a script: its process, and its number in the text of the session
abbrev pub Numbered : Type 0
Numbered = ℕ × ℕ × Line

abbrev pub numbered : ℕ → ℕ → List Line → List Numbered
numbered process number [] = []
numbered process number (line ∷ lines) = (process, number, line) ∷ numbered process (number + 1) lines

-- those of the scripts from this process on, whose first line has this number; a `process` line stands before each later one
abbrev pub numbered_scripts : ℕ → ℕ → List (List Line) → List Numbered
numbered_scripts process number [] = []
numbered_scripts process number (script ∷ scripts) =
    numbered process number script ++ numbered_scripts (process + 1) (number + length script + 1) scripts

abbrev pub script_lines : Outline → List Numbered
script_lines session = numbered_scripts 1 (first_line session 1) session.scripts

-- `P.L`
abbrev pub name_text : ℕ → ℕ → List ℕ
name_text process number = decimal process ++ codes "." ++ decimal number

abbrev pub head_text : Numbered → List ℕ
head_text line = name_text line.0 line.1 ++ codes ": " ++ line_text line.2 ++ codes "\n"

-- the rows of the group at a place
abbrev pub rows_at : List Tallied → ℕ → List Row
rows_at tallies place = (get_or tallies place (tallied [] [])).rows

-- the lines from a place on, each with what it came to
abbrev pub lines_text : List Tallied → ℕ → List Numbered → List ℕ
lines_text tallies place [] = []
lines_text tallies place (line ∷ lines) = head_text line ++ rows_text (rows_at tallies place) ++ lines_text tallies (place + 1) lines

abbrev pub orders_text : ℕ → List ℕ
orders_text orders = codes "orders: " ++ decimal orders ++ codes "\n"

-- two lines, and which of their outcomes come together
abbrev pub two_text : Numbered → Numbered → List Tallied → List ℕ
two_text one other tallies =
    head_text one ++ head_text other ++ pairs_text (rows_at tallies 0) (rows_at tallies 1) (rows_at tallies 2)

-- a count, which a number of 64 bits may not hold
unfoldable pub or_more : ℕ → List ℕ
or_more orders = if orders == 18446744073709551615 then codes " or more" else []

unfoldable pub count_text : ℕ → List ℕ
count_text orders = decimal orders ++ or_more orders

abbrev pub too_many_text : ℕ → List ℕ
too_many_text orders = codes "too many orders: " ++ count_text orders ++ codes "; at most 20000 are made\n"

abbrev pub no_line_text : ℕ → ℕ → List ℕ
no_line_text process number = codes "no line of a script: " ++ name_text process number ++ codes "\n"

-- the groups of one line each, from a place on, and those of two lines at their places
abbrev pub singles : ℕ → List Numbered → List (List ℕ)
singles place [] = []
singles place (line ∷ lines) = (place ∷ []) ∷ singles (place + 1) lines

abbrev pub two_groups : ℕ → ℕ → List (List ℕ)
two_groups one other = (one ∷ []) ∷ (other ∷ []) ∷ (one ∷ other ∷ []) ∷ []

-- what is told of groups of lines: that there are too many orders, or what they came to
abbrev pub TellsGroups : Outline → List (List ℕ) → (List Tallied → List ℕ) → List ℕ → Type 0
TellsGroups session groups telling text =
    ((most_orders < count_of session) × (text ≡ too_many_text (count_of session)))
    ⊎ ((count_of session ≤ most_orders)
    × ((tallies : List Tallied) × (IsExplored session groups tallies × (text ≡ orders_text (count_of session) ++ telling tallies))))

abbrev pub TellsAll : Outline → List ℕ → Type 0
TellsAll session text =
    TellsGroups session (singles 0 (script_lines session)) (λ tallies. lines_text tallies 0 (script_lines session)) text

-- the first line of this process and number, from a place on
abbrev pub is_line : ℕ → ℕ → Numbered → Bool
is_line process number line = line.0 == process && line.1 == number

abbrev pub place_from : ℕ → ℕ → ℕ → List Numbered → Option (ℕ × Numbered)
place_from process number place [] = None
place_from process number place (line ∷ lines) =
    if is_line process number line then Some (place, line) else place_from process number (place + 1) lines

abbrev pub place_of : Outline → ℕ → ℕ → Option (ℕ × Numbered)
place_of session process number = place_from process number 0 (script_lines session)

-- what is told of two lines that were asked for by their names
abbrev pub TellsFound : Outline → ℕ × ℕ → ℕ × ℕ → Option (ℕ × Numbered) → Option (ℕ × Numbered) → List ℕ → Type 0
TellsFound session one other None second text = text ≡ no_line_text one.0 one.1
TellsFound session one other (Some first) None text = text ≡ no_line_text other.0 other.1
TellsFound session one other (Some first) (Some second) text =
    TellsGroups session (two_groups first.0 second.0) (two_text first.1 second.1) text

abbrev pub TellsTwo : Outline → ℕ × ℕ → ℕ × ℕ → List ℕ → Type 0
TellsTwo session one other text =
    TellsFound session one other (place_of session one.0 one.1) (place_of session other.0 other.1) text
