-- Helpers: auditors that are given to processes, one after another.
use Rattle.std.specs.Prelude.{◌≡◌, ℕ, suc, List, [], slice_get}
use Rattle.mx_audit.specs.Accounts.{Account}
use Rattle.mx_line.specs.declared.operands.Progress.TheVariants.{Before}
use Rattle.mx_process.specs.Processes.{ProcessValue}

-- a process in its place before its first line; it has its auditor where its place is among these
pub record IsAttended (accounts : List Account) (place : ℕ) (v : ProcessValue) : Type 0 where
  pub process : v.pass.view.process ≡ suc place
  pub begun : v.state.recording.steps ≡ []
  pub fresh : v.state.progress ≡ Before
  pub account : v.account ≡ slice_get accounts place
