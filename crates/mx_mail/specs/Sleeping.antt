-- Who is asleep, in words of single processes.
use Rattle.std.specs.Prelude.{◌≡◌, ◌≢◌, ◌⊎◌, ℕ, List, [], Some}
use Rattle.mx_mail.specs.declared.processes.ExecutionState.TheVariants.{Running, Waiting, Ended}
use Rattle.mx_mail.specs.Processes.{PlainProcess, process_at}

-- the process has ended, or waits and has no message
abbrev pub IsAsleep : PlainProcess → Type 0
IsAsleep process = (process.state ≡ Ended) ⊎ ((process.state ≡ Waiting) × (process.messages ≡ []))

-- the process runs, or waits and has a message
abbrev pub IsAwake : PlainProcess → Type 0
IsAwake process = (process.state ≡ Running) ⊎ ((process.state ≡ Waiting) × (process.messages ≢ []))

-- every process but process p is asleep
abbrev pub AreOthersAsleep : List PlainProcess → ℕ → Type 0
AreOthersAsleep processes p =
    (q : ℕ) (other : PlainProcess) → process_at processes q ≡ Some other → (q ≡ p → ⊥) → IsAsleep other

-- another process than process p that is awake
pub record IsAnotherAwake (processes : List PlainProcess) (p : ℕ) : Type 0 where
  pub other : ℕ
  pub process : PlainProcess
  pub apart : other ≢ p
  pub there : process_at processes other ≡ Some process
  pub awake : IsAwake process
