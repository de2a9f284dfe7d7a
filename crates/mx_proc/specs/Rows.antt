-- The processes of a run in a row: that at place i, counted from 0, has number i + 1.
use Rattle.std.specs.Prelude.{◌≡◌, ◌↔◌, ℕ, suc, List, [], None, Some, IsSome, slice_get}
use Rattle.mx_audit.specs.Accounts.{Account}
use Rattle.mx_line.specs.declared.operands.Progress.TheVariants.{Before}
use Rattle.mx_process.specs.Lines.{HasNoLine, IsAwake}
use Rattle.mx_process.specs.Processes.{ProcessValue}
use Rattle.mx_script.specs.Sessions.{Outline}

-- a process in its place; it has an auditor exactly where there is one of its place
pub record IsInPlace (accounts : List Account) (place : ℕ) (v : ProcessValue) : Type 0 where
  pub process : v.pass.view.process ≡ suc place
  pub attended : IsSome v.account ↔ IsSome (slice_get accounts place)

abbrev pub AreInPlace : List Account → List ProcessValue → Type 0
AreInPlace accounts row = (place : ℕ) (v : ProcessValue) → slice_get row place ≡ Some v → IsInPlace accounts place v

-- a process in its place before its first line, without an auditor
pub record IsFirst (place : ℕ) (v : ProcessValue) : Type 0 where
  pub process : v.pass.view.process ≡ suc place
  pub begun : v.state.recording.steps ≡ []
  pub fresh : v.state.progress ≡ Before
  pub unaudited : v.account ≡ None

abbrev pub AreFirst : List ProcessValue → Type 0
AreFirst row = (place : ℕ) (v : ProcessValue) → slice_get row place ≡ Some v → IsFirst place v

-- none of them waits for a message
abbrev pub AreAwake : List ProcessValue → Type 0
AreAwake row = (place : ℕ) (v : ProcessValue) → slice_get row place ≡ Some v → IsAwake v

-- none of them has a line left
abbrev pub HaveNoLine : Outline → List ProcessValue → Type 0
HaveNoLine x row = (place : ℕ) (v : ProcessValue) → slice_get row place ≡ Some v → HasNoLine x v
