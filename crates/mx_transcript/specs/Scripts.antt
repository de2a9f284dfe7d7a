-- The lines of a script, each under its number in the session text.
use Rattle.std.specs.Prelude.{ℕ, zero, suc, ◌+◌, List, [], ◌∷◌, map, length}
use Rattle.mx_script.specs.Sessions.{Outline, history_lines}
use Rattle.mx_script.specs.declared.lines.Line.{Line}
use Rattle.mx_script.specs.declared.lines.Line.TheVariants.{Ask}

-- the script of a process, counted from 0
abbrev pub script_at : List (List Line) → ℕ → List Line
script_at [] p = []
script_at (script ∷ scripts) zero = script
script_at (script ∷ scripts) (suc p) = script_at scripts p

-- the lines before the script of a process, counted from 0: scripts, each with its `process` line
abbrev pub lines_before : List (List Line) → ℕ → ℕ
lines_before scripts zero = 0
lines_before [] (suc p) = 0
lines_before (script ∷ scripts) (suc p) = 1 + length script + lines_before scripts p

-- the number of a process's first line in the session text, whose header is line 1, and whose limit, if it sets one, is
-- line 2; the lines of process 0 are the setup's
abbrev pub first_line : Outline → ℕ → ℕ
first_line session zero = 2 + history_lines session.history
first_line session (suc p) = 3 + history_lines session.history + length session.setup + lines_before session.scripts p

-- lines with numbers from this one on
abbrev pub numbered : ℕ → List Line → List (ℕ × Line)
numbered first [] = []
numbered first (line ∷ lines) = (first, line) ∷ numbered (suc first) lines

-- the lines of process p under their numbers
abbrev pub lines_of : Outline → ℕ → List (ℕ × Line)
lines_of session zero = numbered (first_line session zero) (map Ask session.setup)
lines_of session (suc p) = numbered (first_line session (suc p)) (script_at session.scripts p)
