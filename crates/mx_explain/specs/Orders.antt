-- The order that a number chooses, by the generator that the C standard gives as an example.
use Rattle.std.specs.Prelude.{ℕ, zero, suc, ◌+◌, ◌*◌, ◌/◌, ◌%◌, List, [], ◌∷◌, length}
use Rattle.std.specs.List.{sum_by}
use Rattle.mx_script.specs.Sessions.{Outline}

-- each state has a next one, below 2^31
abbrev pub next_state : ℕ → ℕ
next_state state = (1103515245 * state + 12345) % 2147483648

-- the process that a state chooses, of so many: by its upper fifteen bits
abbrev pub chosen : ℕ → ℕ → ℕ
chosen processes state = 1 + state / 65536 % processes

-- so many choices after a state
abbrev pub choices : ℕ → ℕ → ℕ → List ℕ
choices processes state zero = []
choices processes state (suc count) = chosen processes (next_state state) ∷ choices processes (next_state state) count

-- a number chooses as often as the processes of the session have lines
abbrev pub chosen_order : Outline → ℕ → List ℕ
chosen_order session number = choices (length session.principals) number (sum_by length session.scripts)
