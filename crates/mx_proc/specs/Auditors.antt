-- What auditors are told, what their verdicts do, and how much room they need. Auditor i, counted from 0, belongs to process
-- i + 1 and is told of each of its denials, in order. Processes beyond the auditors have none, and auditors beyond the processes
-- are told nothing.
use Rattle.std.specs.Prelude.{◌≡◌, ℕ, suc, ◌≤◌, List, [], ◌++◌, map, take, length, Option, Some, None, slice_get}
use Rattle.std.specs.List.{slice_index_or}
use Rattle.mx_audit.specs.Accounts.{Account, Told, with_all, HaveRoomFor}
use Rattle.mx_audit.specs.Verdicts.{GoOnToLast, denial_in, last_told}
use Rattle.mx_audit.specs.declared.auditors.Verdict.{Verdict}
use Rattle.mx_audit.specs.declared.auditors.Verdict.TheVariants.{GoOn, Logout}
use Rattle.mx_script.specs.Sessions.{Outline}
use Rattle.mx_script.specs.declared.lines.Line.{Line}
use Rattle.mx_sdw.specs.declared.denials.Denial.{Denial}
use Rattle.mx_transcript.specs.Denials.{denial_of, denials}
use Rattle.mx_transcript.specs.Parts.{last_line}
use Rattle.mx_transcript.specs.Scripts.{lines_of}
use Rattle.mx_transcript.specs.Transcripts.{Step, part}

abbrev pub number_of : Step → ℕ
number_of step = step.0

abbrev pub number_in : ℕ × Line → ℕ
number_in line = line.0

-- a part has steps under the numbers of these lines, in order
abbrev pub HasLines : List Step → List (ℕ × Line) → Type 0
HasLines steps lines = map number_of steps ≡ map number_in lines

-- behind the line with this denial the part has the last line of the script, and no other
pub record IsCutBehind (lines : List (ℕ × Line)) (steps : List Step) (denial : ℕ × Denial) : Type 0 where
  pub place : ℕ
  pub step : Step
  pub at : slice_get steps place ≡ Some step
  pub denied : denial_of step ≡ Some denial
  pub cut : HasLines steps (take (suc place) lines ++ last_line lines)

-- a verdict to go on leaves a part whole, and one to log out cuts it behind its denial
abbrev pub IsHeeded : List (ℕ × Line) → List Step → ℕ × Denial → Verdict → Type 0
IsHeeded lines steps denial GoOn = HasLines steps lines
IsHeeded lines steps denial Logout = IsCutBehind lines steps denial

abbrev pub IsHeededLast : List (ℕ × Line) → List Step → Option Told → Type 0
IsHeededLast lines steps None = HasLines steps lines
IsHeededLast lines steps (Some told) = IsHeeded lines steps (denial_in told) told.2

-- It was told of just the denials of its process's part, in order, each with its verdict. All its verdicts but the last were to
-- go on; where the last was to log out, the part is cut behind that denial, and else it is whole.
pub record WasTold (lines : List (ℕ × Line)) (steps : List Step) (told : List Told) : Type 0 where
  pub each : map denial_in told ≡ denials steps
  pub going : GoOnToLast told
  pub heeded : IsHeededLast lines steps (last_told told)

-- After a run: what each auditor was told more than before. The part of a process without an auditor is whole; so is that of the
-- initializer, transcript 0, which has none.
pub record WereTold (session : Outline) (before : List Account) (transcripts : List (List Step)) (after : List Account)
    : Type 0 where
  pub told : List (List Told)
  pub count : length told ≤ length session.principals
  pub grown : after ≡ with_all before told
  pub each : (i : ℕ) (account : Account) → suc i ≤ length session.principals → slice_get before i ≡ Some account
      → WasTold (lines_of session (suc i)) (part transcripts (suc i)) (slice_index_or told i [])
  pub alone : (i : ℕ) → suc i ≤ length session.principals → slice_get before i ≡ None
      → HasLines (part transcripts (suc i)) (lines_of session (suc i))
  pub initial : HasLines (part transcripts 0) (lines_of session 0)

-- Each auditor has room for a denial of each line of its process.
abbrev pub HaveRoomForLines : Outline → List Account → Type 0
HaveRoomForLines session accounts = HaveRoomFor (map length session.scripts) accounts
