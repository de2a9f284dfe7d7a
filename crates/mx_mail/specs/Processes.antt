-- The processes and the messages that wait for them. A process is its place in the list, counted from 1; there is no
-- process 0.
use Rattle.std.specs.Prelude.{◌≡◌, ℕ, ◌≤◌, ◌==◌, ◌-◌, List, [], length, slice_get, slice_set, replicate, Option, None, if◌then◌else◌}
use Rattle.std.specs.List.{All}
use Rattle.mx_mail.specs.declared.processes.ExecutionState.{ExecutionState}
use Rattle.mx_mail.specs.declared.processes.ExecutionState.TheVariants.{Running, Ended}

-- what a process is about, and the messages that wait for it in the order sent: the sender's number and the word
pub record PlainProcess : Type 0 where
  pub state : ExecutionState
  pub messages : List (ℕ × ℕ)

-- a process in this state with these messages
abbrev pub process_in : ExecutionState → List (ℕ × ℕ) → PlainProcess
process_in state messages = record { state = state; messages = messages }

-- so many processes, each running, without messages
abbrev pub all_running : ℕ → List PlainProcess
all_running number = replicate number (process_in Running [])

-- process p
abbrev pub process_at : List PlainProcess → ℕ → Option PlainProcess
process_at processes p = if p == 0 then None else slice_get processes (p - 1)

-- the same processes, with this one as process p
abbrev pub with_process : List PlainProcess → ℕ → PlainProcess → List PlainProcess
with_process processes p process = if p == 0 then processes else slice_set processes (p - 1) process

-- process p has ended: the messages that waited for it are dropped
abbrev pub end_process : List PlainProcess → ℕ → List PlainProcess
end_process processes p = with_process processes p (process_in Ended [])

-- the sender of a message is one of so many processes
abbrev pub IsFromProcess : ℕ → ℕ × ℕ → Type 0
IsFromProcess count message = (1 ≤ message.0) × (message.0 ≤ count)

-- what is true of each of so many processes: at most 64 messages wait for it, each sender is a process, and none waits
-- for a process that has ended
pub record IsProcess (count : ℕ) (process : PlainProcess) : Type 0 where
  pub within : length process.messages ≤ 64
  pub senders : All (IsFromProcess count) process.messages
  pub silent : process.state ≡ Ended → process.messages ≡ []

-- what is true of all of them: there are 1 to 15
pub record AreProcesses (processes : List PlainProcess) : Type 0 where
  pub some : 1 ≤ length processes
  pub most : length processes ≤ 15
  pub each : All (IsProcess (length processes)) processes
