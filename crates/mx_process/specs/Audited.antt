-- What the auditor of one process is told, each of its denials in order, and what its verdicts come to.
use Rattle.std.specs.Prelude.{◌≡◌, ℕ, ◌≤◌, List, [], ◌∷◌, map, length, Option, Some, None}
use Rattle.mx_audit.specs.Accounts.{Account, Told, with_told}
use Rattle.mx_audit.specs.Verdicts.{GoOnToLast, denial_in, last_told}
use Rattle.mx_audit.specs.declared.auditors.Verdict.{Verdict}
use Rattle.mx_audit.specs.declared.auditors.Verdict.TheVariants.{GoOn, Logout}
use Rattle.mx_line.specs.declared.processes.Process.{Process as LineState}
use Rattle.mx_script.specs.Sessions.{Outline}
use Rattle.mx_sdw.specs.declared.denials.Denial.{Denial}
use Rattle.mx_transcript.specs.Denials.{denials}
use Rattle.mx_transcript.specs.Scripts.{lines_of}
use Rattle.mx_process.specs.Plans.{IsCutBehind, IsUncut}

-- behind a denial with this verdict the process goes on, or its part is cut there
abbrev pub IsHeeded : Outline → ℕ → LineState → ℕ × Denial → Verdict → Type 0
IsHeeded x p state denial GoOn = IsUncut x p state
IsHeeded x p state denial Logout = IsCutBehind x p state denial

-- so it is behind the last denial, if there was one
abbrev pub IsHeededLast : Outline → ℕ → LineState → Option Told → Type 0
IsHeededLast x p state None = IsUncut x p state
IsHeededLast x p state (Some told) = IsHeeded x p state (denial_in told) told.2

-- The auditor had this account before the run, with room for a denial of each line of the script. Since then it was told of just
-- what the lines were denied; all its verdicts but the last were to go on, and the last one was heeded.
pub record IsTold (x : Outline) (p : ℕ) (before : Option Account) (state : LineState) (account : Account) : Type 0 where
  pub opening : Account
  pub had : before ≡ Some opening
  pub room : length (lines_of x p) ≤ opening.room
  pub told : List Told
  pub grown : account ≡ with_told opening told
  pub each : map denial_in told ≡ denials state.recording.steps
  pub going : GoOnToLast told
  pub heeded : IsHeededLast x p state (last_told told)

-- the denial of a line, if it was denied
abbrev pub as_list : Option (ℕ × Denial) → List (ℕ × Denial)
as_list None = []
as_list (Some told) = told ∷ []

-- a process may have no auditor
abbrev pub IsAudited : Outline → ℕ → Option Account → LineState → Option Account → Type 0
IsAudited x p before state None = Unit {0}
IsAudited x p before state (Some account) = IsTold x p before state account
