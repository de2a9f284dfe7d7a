-- Helpers that only private contracts cite: what the lines read so far say.
use Rattle.std.specs.Prelude.{◌≡◌, ℕ, nat_le, nat_lt, ◌<◌, ◌-◌, ◌^◌, Bool, true, ◌&&◌, List, [], ◌∷◌, ◌++◌, length, Option, None, Some, if◌then◌else◌}
use Rattle.mx_request.specs.declared.entrants.Entrant.{Entrant}
use Rattle.mx_request.specs.declared.requests.Request.{Request}
use Rattle.mx_request.specs.Classes.{class_of}
use Rattle.mx_request.specs.Steps.{when}
use Rattle.mx_request.specs.Versions.{since_version}
use Rattle.mx_script.specs.Reading.{IsRow}
use Rattle.mx_script.specs.Sessions.{Outline, outline, session_of, line_count, is_for_setup, is_for_script, is_entrant, is_logout}
use Rattle.mx_script.specs.declared.lines.Line.{Line}
use Rattle.mx_script.specs.declared.lines.Line.TheVariants.{Ask, Set, Epp, Lda, Sta, Spri, Fetch, Call, Return}
use Rattle.mx_script.specs.declared.reading.stages.Reach.{Reach}
use Rattle.mx_script.specs.declared.reading.stages.Reach.TheVariants as reach
use Rattle.mx_script.specs.declared.reading.stages.Stage.{Stage}
use Rattle.mx_script.specs.declared.reading.stages.Stage.TheVariants as stage
use Rattle.mx_script.specs.declared.rows.Row.{Row}
use Rattle.mx_script.specs.declared.rows.Row.TheVariants as row

-- no line yet; the version, the limit, if any, and the setup so far; and the processes that have logged out, and one more
-- with its script so far; and its logout; and the end
pub data Draft : Type 0 where
  Empty : Draft
  Headed : ℕ → Option ℕ → List Request → Draft
  Running : Outline → Entrant → List Line → Draft
  LoggedOut : Outline → Draft
  Ended : Outline → Draft

-- of what is kept, what counts at a stage
abbrev pub draft_at : Stage → ℕ → Option ℕ → List Request → Outline → List Line → Draft
draft_at stage.Empty version history setup x script = Empty
draft_at stage.Headed version history setup x script = Headed version history setup
draft_at (stage.Running entrant) version history setup x script = Running x entrant script
draft_at stage.LoggedOut version history setup x script = LoggedOut x
draft_at stage.Ended version history setup x script = Ended x

-- the limit stands before the setup, once
abbrev pub history_step : ℕ → Option ℕ → List Request → ℕ → Option Draft
history_step version None [] limit = Some (Headed version (Some limit) [])
history_step version _ _ limit = None

-- a request of the setup: on a path, and of the version
abbrev pub may_prepare : ℕ → Request → Bool
may_prepare version request = is_for_setup (class_of request) && nat_le (since_version request) version

-- a setup goes on with such a request
abbrev pub setup_step : ℕ → Option ℕ → List Request → Line → Option Draft
setup_step version history setup (Ask request) =
    when (may_prepare version request) (Headed version history (setup ++ request ∷ []))
setup_step version history setup _ = None

-- the parts of a session before its first process
abbrev pub set_up : ℕ → Option ℕ → List Request → Outline
set_up version history setup = outline version history setup [] []

-- with these processes behind its own
abbrev pub with_processes : Outline → List Entrant → List (List Line) → Outline
with_processes x entrants scripts =
    outline x.version x.history x.setup (x.principals ++ entrants) (x.scripts ++ scripts)

abbrev pub with_process : Outline → Entrant → List Line → Outline
with_process x entrant script = with_processes x (entrant ∷ []) (script ∷ [])

-- a line of a script: of the requests, those that a script of the version asks for
abbrev pub may_stand : ℕ → Line → Bool
may_stand version (Ask request) = is_for_script (class_of request) && nat_le (since_version request) version
may_stand version (Set word) = true
may_stand version (Epp n operand) = true
may_stand version (Lda operand) = true
may_stand version (Sta operand) = true
may_stand version (Spri n operand) = true
may_stand version Fetch = true
may_stand version (Call operand) = true
may_stand version (Return operand) = true

abbrev pub script_on : Outline → Entrant → List Line → Line → Draft
script_on x entrant script line =
    if is_logout line then LoggedOut (with_process x entrant (script ++ line ∷ []))
    else Running x entrant (script ++ line ∷ [])

-- a script goes on with a line of its own, up to its logout
abbrev pub script_step : Outline → Entrant → List Line → Line → Option Draft
script_step x entrant script line = when (may_stand x.version line) (script_on x entrant script line)

-- where a line of a script leads
abbrev pub reached : Reach → Outline → Entrant → List Line → Option Draft
reached reach.Nowhere x entrant script = None
reached reach.Within x entrant script = Some (Running x entrant script)
reached reach.Logout x entrant script = Some (LoggedOut x)

-- the first process
abbrev pub first_step : Outline → Entrant → Option Draft
first_step x entrant = when (is_entrant x.version entrant) (Running x entrant [])

-- one more process, up to the fifteenth
abbrev pub process_step : Outline → Entrant → Option Draft
process_step x entrant = when (nat_lt (length x.principals) 15 && is_entrant x.version entrant) (Running x entrant [])

-- the draft after one more row, if it can stand there
abbrev pub step : Draft → Row → Option Draft
step Empty (row.Header version) = Some (Headed version None [])
step (Headed version history setup) (row.History limit) = history_step version history setup limit
step (Headed version history setup) (row.Line line) = setup_step version history setup line
step (Headed version history setup) (row.Process entrant) = first_step (set_up version history setup) entrant
step (Running x entrant script) (row.Line line) = script_step x entrant script line
step (LoggedOut x) (row.Process entrant) = process_step x entrant
step (LoggedOut x) row.End = Some (Ended x)
step _ _ = None

-- the draft after one more line, by the one row that the line spells
pub record Goes (before : Draft) (text : List ℕ) (after : Draft) : Type 0 where
  pub told : Row
  pub is : IsRow text told
  pub alone : (other : Row) → IsRow text other → other ≡ told
  pub steps : step before told ≡ Some after

-- what comes of one more line
abbrev pub Follows : Draft → List ℕ → Option Draft → Type 0
Follows before text (Some after) = Goes before text after
Follows before text None = (r : Row) → IsRow text r → step before r ≡ None

-- the session that a draft has become, if it has ended and nothing follows
abbrev pub finished : Draft → List ℕ → Option Outline
finished (Ended x) [] = session_of x
finished _ _ = None

-- few enough lines to count
abbrev pub IsCountable : Draft → Type 0
IsCountable (Ended x) = line_count x < 2 ^ 32 - 1
IsCountable _ = Unit {0}
