-- What the processes of a run leave: their transcripts, their passes and their auditors.
use Rattle.std.specs.Prelude.{◌≡◌, ◌-◌, ◌≤◌, ℕ, List, [], ◌∷◌, ◌++◌, Some, None, length, option_to_list, slice_get}
use Rattle.mx_audit.specs.Accounts.{Account}
use Rattle.mx_closing.specs.Views.{view_in}
use Rattle.mx_desc.specs.Passes.{PassValue}
use Rattle.mx_process.specs.Audited.{IsAudited}
use Rattle.mx_process.specs.Plans.{IsUncut, place_in}
use Rattle.mx_process.specs.Processes.{ProcessValue}
use Rattle.mx_script.specs.Sessions.{Outline}
use Rattle.mx_state.specs.declared.journal.Entry as journaled
use Rattle.mx_ties.specs.Working.{HasWorked}
use Rattle.mx_transcript.specs.Scripts.{lines_of}
use Rattle.mx_transcript.specs.Transcripts.{Step}

abbrev pub steps_in : ProcessValue → List Step
steps_in v = v.state.recording.steps

abbrev pub pass_in : ProcessValue → PassValue journaled.Entry
pass_in v = v.pass

-- the accounts of the auditors that processes have, in their order
abbrev pub accounts_in : List ProcessValue → List Account
accounts_in [] = []
accounts_in (v ∷ row) = option_to_list v.account ++ accounts_in row

-- each auditor was told what its process was denied, and heeded
abbrev pub AreAudited : Outline → List Account → List ProcessValue → Type 0
AreAudited x accounts row = (place : ℕ) (v : ProcessValue) → slice_get row place ≡ Some v
    → IsAudited x v.pass.view.process (slice_get accounts (v.pass.view.process - 1)) v.state v.account

-- where a process has no account, no line was left out
abbrev pub AreUncutAlone : Outline → List Account → List ProcessValue → Type 0
AreUncutAlone x accounts row = (place : ℕ) (v : ProcessValue) → slice_get row place ≡ Some v
    → slice_get accounts (v.pass.view.process - 1) ≡ None → IsUncut x v.pass.view.process v.state

-- the place of each is within its script
abbrev pub AreWithin : Outline → List ProcessValue → Type 0
AreWithin x row = (place : ℕ) (v : ProcessValue) → slice_get row place ≡ Some v
    → place_in x v.pass.view.process v.state ≤ length (lines_of x v.pass.view.process)

-- each has worked
abbrev pub HaveWorked : Outline → List journaled.Entry → List ProcessValue → Type 0
HaveWorked x setup row = (place : ℕ) (v : ProcessValue) → slice_get row place ≡ Some v
    → HasWorked x setup v.pass.view.process (steps_in v) (view_in v.pass)
