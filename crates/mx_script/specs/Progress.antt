-- Helpers that only private contracts cite: how far a text was read.
use Rattle.std.specs.Prelude.{◌≡◌, ℕ, ◌+◌, ◌<◌, Bool, true, ◌&&◌, not, List, [], ◌∷◌, ◌++◌, length, map, Option, Some}
use Rattle.std.specs.List.{list_all}
use Rattle.mx_request.specs.Steps.{◌>>=◌}
use Rattle.mx_script.specs.Drafts.{Draft, Empty, Headed, Running, LoggedOut, Ended, step}
use Rattle.mx_request.specs.declared.requests.Request.{Request}
use Rattle.mx_script.specs.Sessions.{Outline, is_version, is_limit, is_setup_request, is_entrant, is_script_line, is_logout, is_script, is_session}
use Rattle.mx_script.specs.SessionTexts.{row_text, setup_rows, process_rows, fits, lines_text}
use Rattle.mx_script.specs.declared.lines.Line.{Line}
use Rattle.mx_script.specs.declared.rows.Row.{Row}
use Rattle.mx_script.specs.declared.rows.Row.TheVariants as row

-- header, limit, setup and processes
abbrev pub front_rows : Outline → List Row
front_rows x = setup_rows x.version x.history x.setup ++ process_rows x.principals x.scripts

-- the rows that a draft has
abbrev pub rows_so_far : Draft → List Row
rows_so_far Empty = []
rows_so_far (Headed version history setup) = setup_rows version history setup
rows_so_far (Running x entrant script) = front_rows x ++ row.Process entrant ∷ map row.Line script
rows_so_far (LoggedOut x) = front_rows x
rows_so_far (Ended x) = front_rows x ++ row.End ∷ []

-- their lines
abbrev pub texts_so_far : Draft → List (List ℕ)
texts_so_far draft = map row_text (rows_so_far draft)

-- a line of a script before its logout
abbrev pub goes_before : ℕ → Line → Bool
goes_before version line = is_script_line version line && not (is_logout line)

-- a version, a limit and a setup of a session
pub record IsSetUp (version : ℕ) (history : Option ℕ) (setup : List Request) : Type 0 where
  pub of_version : is_version version ≡ true
  pub limit : is_limit history ≡ true
  pub requests : list_all (is_setup_request version) setup ≡ true

-- parts of a session that may have one more process
pub record IsOpen (x : Outline) : Type 0 where
  pub set_up : IsSetUp x.version x.history x.setup
  pub room : length x.principals < 15
  pub same : length x.scripts ≡ length x.principals
  pub entrants : list_all (is_entrant x.version) x.principals ≡ true
  pub scripts : list_all (is_script x.version) x.scripts ≡ true

-- what stands in a draft stands there rightly
abbrev pub IsSound : Draft → Type 0
IsSound Empty = Unit {0}
IsSound (Headed version history setup) = IsSetUp version history setup
IsSound (Running x entrant script) = IsOpen x × (is_entrant x.version entrant ≡ true) × (list_all (goes_before x.version) script ≡ true)
IsSound (LoggedOut x) = is_session x ≡ true
IsSound (Ended x) = is_session x ≡ true

-- the draft after so many rows
abbrev pub run : List Row → Draft → Option Draft
run [] draft = Some draft
run (r ∷ rows) draft = step draft r >>= run rows

-- these rows alone have these texts
abbrev pub AreAlone : List Row → List (List ℕ) → Type 0
AreAlone rows texts = (others : List Row) → list_all fits others ≡ true → map row_text others ≡ texts → others ≡ rows

-- these bytes are the lines of a draft, the next of which has this number, and this rest
pub record HasRead (spelled rest : List ℕ) (number : ℕ) (draft : Draft) : Type 0 where
  pub parts : spelled ≡ lines_text (texts_so_far draft) ++ rest
  pub next : number ≡ length (texts_so_far draft) + 1
  pub fit : list_all fits (rows_so_far draft) ≡ true
  pub alone : AreAlone (rows_so_far draft) (texts_so_far draft)
  pub runs : run (rows_so_far draft) Empty ≡ Some draft
  pub sound : IsSound draft
