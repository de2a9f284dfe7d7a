-- What an auditor answers to the denial of a line, and what becomes of its process then: it goes on, or all lines of its script
-- before the last are left out.
use Rattle.std.specs.Prelude.{◌≡◌, ℕ, ◌+◌, ◌-◌, List, [], ◌∷◌, drop, length, Option, Some, None}
use Rattle.mx_audit.specs.Accounts.{Account, with_told}
use Rattle.mx_audit.specs.declared.auditors.Verdict.{Verdict}
use Rattle.mx_audit.specs.declared.auditors.Verdict.TheVariants.{GoOn, Logout}
use Rattle.mx_line.specs.declared.processes.Process.{Process as LineState}
use Rattle.mx_script.specs.declared.lines.Line.{Line}
use Rattle.mx_sdw.specs.declared.denials.Denial.{Denial}

-- the auditor, if there is one, was told of this denial, if there is one, and answered so; else the process goes on
abbrev pub HasTold : Option (ℕ × Denial) → Option Account → Verdict → Option Account → Type 0
HasTold None account verdict account' = (verdict ≡ GoOn) × (account' ≡ account)
HasTold (Some told) None verdict account' = (verdict ≡ GoOn) × (account' ≡ None)
HasTold (Some told) (Some account) verdict account' = account' ≡ Some (with_told account ((told.0, told.1, verdict) ∷ []))

-- how many lines are left before the last, of a script whose line at work is at the place that counts the lines done
abbrev pub before_last : LineState → List Line → ℕ
before_last state script = length script - 1 - length state.recording.steps

-- so many more are left out
abbrev pub cut_by : ℕ → LineState → LineState
cut_by more state = record state { first = state.first + more }

-- where it is to log out, its last line is next
abbrev pub Heeds : Verdict → LineState → List Line → LineState → List Line → Type 0
Heeds GoOn state script state' script' = (state' ≡ state) × (script' ≡ script)
Heeds Logout state script state' script' =
    (state' ≡ cut_by (before_last state script) state) × (script' ≡ drop (before_last state script) script)

-- the auditor was told, and its verdict heeded
pub record HasHeeded (told : Option (ℕ × Denial)) (account : Option Account) (state : LineState) (script : List Line)
    (account' : Option Account) (state' : LineState) (script' : List Line) : Type 0 where
  pub verdict : Verdict
  pub answered : HasTold told account verdict account'
  pub heeds : Heeds verdict state script state' script'
