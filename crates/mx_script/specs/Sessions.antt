-- What a session consists of: its version, the journal's limit where it sets one, the setup's requests, and for each
-- process its principal and authorization, and its script; and which of these are the parts of a session.
use Rattle.std.specs.Prelude.{◌≡◌, ◌-◌, ◌<◌, ◌≤◌, ℕ, ◌+◌, ◌==◌, ◌^◌, nat_le, Bool, true, false, ◌&&◌, ◌||◌, if◌then◌else◌, List, [], ◌∷◌, length, Option, Some, None}
use Rattle.std.specs.List.{list_all, sum_by}
use Rattle.mx_aim.specs.Classes.{PlainClass, lowest, equals}
use Rattle.mx_name.specs.Principals.{PlainPrincipal}
use Rattle.mx_object.specs.Objects.{PlainObjectMap}
use Rattle.mx_request.specs.declared.requests.Request.{Request}
use Rattle.mx_request.specs.declared.requests.Request.TheVariants.{CreateSeg, CreateObject, Terminate, Wakeup, Logout}
use Rattle.mx_request.specs.Classes.{class_of}
use Rattle.mx_request.specs.Versions.{has_classes, since_version}
use Rattle.mx_request.specs.declared.classes.RequestClass.{RequestClass}
use Rattle.mx_request.specs.declared.classes.RequestClass.TheVariants.{OfPath, OfProcess, OfSupervisor}
use Rattle.mx_request.specs.declared.entrants.Entrant.{Entrant}
use Rattle.mx_script.specs.declared.lines.Base.{Base}
use Rattle.mx_script.specs.declared.lines.Base.TheVariants.{Segment, Register}
use Rattle.mx_script.specs.declared.lines.Line.{Line}
use Rattle.mx_script.specs.declared.lines.Line.TheVariants.{Ask, Set, Epp, Lda, Sta, Spri, Fetch, Call, Return}
use Rattle.mx_script.specs.declared.lines.Operand.{Operand}

pub record Outline : Type 0 where
  pub version : ℕ
  pub history : Option ℕ
  pub setup : List Request
  pub principals : List Entrant
  pub scripts : List (List Line)

abbrev pub outline : ℕ → Option ℕ → List Request → List Entrant → List (List Line) → Outline
outline version history setup principals scripts = record {
  version = version;
  history = history;
  setup = setup;
  principals = principals;
  scripts = scripts;
}

-- the process of a principal, with this authorization
abbrev pub entrant : PlainPrincipal → PlainClass → Entrant
entrant who authorization = record { who = who; authorization = authorization }

-- the word of a definition is at most octal 37777
abbrev pub is_short_definition : List ℕ × ℕ → Bool
is_short_definition definition = nat_le definition.1 16383

-- GATE has at most four digits, and each definition is short; the type bounds all other parts of a map
abbrev pub is_short_object : PlainObjectMap → Bool
is_short_object object = nat_le object.gate 9999 && list_all is_short_definition object.definitions

-- WORDS has at most five digits, a segment number four octal ones, and a process to be woken up a number from 1 to 99;
-- the types bound all other parts of a request
abbrev pub is_short : Request → Bool
is_short (CreateSeg path words brackets) = nat_le words 99999
is_short (CreateObject path words brackets object) = nat_le words 99999 && is_short_object object
is_short (Terminate segno) = nat_le segno 4095
is_short (Wakeup to word) = nat_le 1 to && nat_le to 99
is_short _ = true

-- the setup makes requests on paths
abbrev pub is_for_setup : RequestClass → Bool
is_for_setup OfPath = true
is_for_setup OfProcess = false
is_for_setup OfSupervisor = false

-- what the setup may ask in a session of a version
abbrev pub is_setup_request : ℕ → Request → Bool
is_setup_request version request = is_for_setup (class_of request) && (nat_le (since_version request) version && is_short request)

-- a script asks for everything but what the supervisor enters for a process
abbrev pub is_for_script : RequestClass → Bool
is_for_script OfPath = true
is_for_script OfProcess = true
is_for_script OfSupervisor = false

-- the pointer registers are PR0 to PR7
abbrev pub is_register : ℕ → Bool
is_register number = nat_le number 7

-- a segment number has at most four octal digits
abbrev pub is_base : Base → Bool
is_base (Segment segno) = nat_le segno 4095
is_base (Register number) = is_register number

-- a word number has at most five, of which the first is at most 3
abbrev pub is_address : Operand → Bool
is_address operand = is_base operand.base && nat_le operand.word 16383

-- what a script may say in a session of a version
abbrev pub is_script_line : ℕ → Line → Bool
is_script_line version (Ask request) = is_for_script (class_of request) && (nat_le (since_version request) version && is_short request)
is_script_line version (Set word) = true
is_script_line version (Epp number operand) = is_register number && is_address operand
is_script_line version (Lda operand) = is_address operand
is_script_line version (Sta operand) = is_address operand
is_script_line version (Spri number operand) = is_register number && is_address operand
is_script_line version Fetch = true
is_script_line version (Call operand) = is_address operand
is_script_line version (Return operand) = is_address operand

abbrev pub is_logout : Line → Bool
is_logout (Ask Logout) = true
is_logout _ = false

abbrev pub is_last : List Line → Bool
is_last [] = true
is_last (line ∷ lines) = false

-- the first logout is there, and it is the last line
abbrev pub ends : List Line → Bool
ends [] = false
ends (line ∷ lines) = if is_logout line then is_last lines else ends lines

abbrev pub is_script : ℕ → List Line → Bool
is_script version lines = list_all (is_script_line version) lines && ends lines

-- 1 to 15 processes, and as many scripts
abbrev pub is_count : ℕ → ℕ → Bool
is_count processes scripts = nat_le 1 processes && (nat_le processes 15 && (scripts == processes))

-- without classes every process has the lowest
abbrev pub is_entrant : ℕ → Entrant → Bool
is_entrant version entrant = has_classes version || equals entrant.authorization lowest

-- each process has its script
abbrev pub are_processes : ℕ → List Entrant → List (List Line) → Bool
are_processes version principals scripts =
    is_count (length principals) (length scripts)
    && (list_all (is_entrant version) principals && list_all (is_script version) scripts)

-- a limit of the journal that a session may set
abbrev pub is_history : ℕ → Bool
is_history limit = nat_le 1 limit && nat_le limit 262143

abbrev pub is_limit : Option ℕ → Bool
is_limit None = true
is_limit (Some limit) = is_history limit

-- the versions of sessions are 1 to 4
abbrev pub greatest_version : ℕ
greatest_version = 4

abbrev pub is_version : ℕ → Bool
is_version version = nat_le 1 version && nat_le version greatest_version

-- these are the parts of a session
abbrev pub is_session : Outline → Bool
is_session session =
    is_version session.version && (is_limit session.history
    && (list_all (is_setup_request session.version) session.setup && are_processes session.version session.principals session.scripts))

-- the session of these parts
abbrev pub session_of : Outline → Option Outline
session_of session = if is_session session then Some session else None

-- a session that sets a limit says so in a line
abbrev pub history_lines : Option ℕ → ℕ
history_lines None = 0
history_lines (Some limit) = 1

-- the lines of its text: header, limit, setup, for each process its `process` line and its script, and `end`
abbrev pub line_count : Outline → ℕ
line_count session = 2 + history_lines session.history + length session.setup + length session.principals + sum_by length session.scripts

abbrev pub limit_or_most : Option ℕ → ℕ
limit_or_most None = 262143
limit_or_most (Some limit) = limit

-- the greatest number of journal entries
abbrev pub limit_of : Outline → ℕ
limit_of session = limit_or_most session.history

-- What whoever runs a session rests on: a version, a setup of requests on paths, 1 to 15 processes, for each its script,
-- authorizations and requests of the version, and line numbers of 32 bits.
pub record IsSession (session : Outline) : Type 0 where
  pub version : is_version session.version ≡ true
  pub setup : list_all (is_setup_request session.version) session.setup ≡ true
  pub entrants : list_all (is_entrant session.version) session.principals ≡ true
  pub some : 1 ≤ length session.principals
  pub most : length session.principals ≤ 15
  pub scripts : length session.scripts ≡ length session.principals
  pub each : list_all (is_script session.version) session.scripts ≡ true
  pub limit : limit_of session ≤ 262143
  pub lines : line_count session < 2 ^ 32 - 1
