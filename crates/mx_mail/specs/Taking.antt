-- What taking a message answers, and whom it leaves waiting.
use Rattle.std.specs.Prelude.{ℕ, ◌-◌, ◌==◌, Bool, true, false, ◌||◌, not, List, [], ◌∷◌, ◌++◌, length, take, drop, Option, Some, None, if◌then◌else◌}
use Rattle.std.specs.List.{list_all}
use Rattle.mx_mail.specs.declared.mail.Taken.{Taken}
use Rattle.mx_mail.specs.declared.mail.Taken.TheVariants.{Message, Nobody, Waiting}
use Rattle.mx_mail.specs.declared.processes.ExecutionState.{ExecutionState}
use Rattle.mx_mail.specs.declared.processes.ExecutionState.TheVariants as state
use Rattle.mx_mail.specs.Processes.{PlainProcess, process_in, process_at, with_process}

-- a process is asleep that has ended, or waits and has no message
abbrev pub is_asleep_in : ExecutionState → List (ℕ × ℕ) → Bool
is_asleep_in state.Running messages = false
is_asleep_in state.Waiting messages = length messages == 0
is_asleep_in state.Ended messages = true

abbrev pub is_asleep : PlainProcess → Bool
is_asleep process = is_asleep_in process.state process.messages

-- all processes but process p
abbrev pub others : List PlainProcess → ℕ → List PlainProcess
others processes p = take (p - 1) processes ++ drop p processes

-- every other process is asleep
abbrev pub nobody_else : List PlainProcess → ℕ → Bool
nobody_else processes p = list_all is_asleep (others processes p)

abbrev pub messages_in : Option PlainProcess → List (ℕ × ℕ)
messages_in None = []
messages_in (Some process) = process.messages

-- the messages that wait for process p
abbrev pub messages_of : List PlainProcess → ℕ → List (ℕ × ℕ)
messages_of processes p = messages_in (process_at processes p)

-- an answer, and the processes after it
pub record TakeAnswer : Type 0 where
  pub taken : Taken
  pub processes : List PlainProcess

abbrev pub take_answer : Taken → List PlainProcess → TakeAnswer
take_answer taken processes = record { taken = taken; processes = processes }

-- the oldest of these messages; without any, nobody or waiting
abbrev pub taken_from : Bool → List (ℕ × ℕ) → Taken
taken_from nobody (message ∷ later) = Message message.0 message.1
taken_from nobody [] = if nobody then Nobody else Waiting

-- and the process after it: it runs after a message and where there is nobody, and else it waits
abbrev pub process_after : Bool → List (ℕ × ℕ) → PlainProcess
process_after nobody (message ∷ later) = process_in state.Running later
process_after nobody [] = if nobody then process_in state.Running [] else process_in state.Waiting []

-- process p takes a message
abbrev pub take_message : List PlainProcess → ℕ → TakeAnswer
take_message processes p =
    let nobody : Bool = nobody_else processes p in
    let messages : List (ℕ × ℕ) = messages_of processes p in
    take_answer (taken_from nobody messages) (with_process processes p (process_after nobody messages))

-- process p would not wait
abbrev pub is_ready : List PlainProcess → ℕ → Bool
is_ready processes p = not (length (messages_of processes p) == 0) || nobody_else processes p
