-- What sending a message does, and when it is refused.
use Rattle.std.specs.Prelude.{ℕ, nat_le, List, [], ◌∷◌, ◌++◌, length, Option, Some, None, Result, Ok, Err, if◌then◌else◌}
use Rattle.mx_mail.specs.declared.mail.MailError.{MailError}
use Rattle.mx_mail.specs.declared.mail.MailError.TheVariants.{NoProcess, Ended, Full}
use Rattle.mx_mail.specs.declared.processes.ExecutionState.{ExecutionState}
use Rattle.mx_mail.specs.declared.processes.ExecutionState.TheVariants as state
use Rattle.mx_mail.specs.Processes.{PlainProcess, process_in, process_at, with_process}

-- why no message is taken in, of a process that may not be there: it has ended, or 64 messages wait for it
abbrev pub refusal_in : ExecutionState → List (ℕ × ℕ) → Option MailError
refusal_in state.Ended messages = Some Ended
refusal_in state.Running messages = if nat_le 64 (length messages) then Some Full else None
refusal_in state.Waiting messages = if nat_le 64 (length messages) then Some Full else None

abbrev pub send_refusal : Option PlainProcess → Option MailError
send_refusal None = Some NoProcess
send_refusal (Some process) = refusal_in process.state process.messages

-- the process with a message behind those that wait for it
abbrev pub with_message : PlainProcess → ℕ × ℕ → PlainProcess
with_message process message = process_in process.state (process.messages ++ message ∷ [])

abbrev pub deliver : List PlainProcess → ℕ → Option PlainProcess → ℕ × ℕ → List PlainProcess
deliver processes to None message = processes
deliver processes to (Some process) message = with_process processes to (with_message process message)

abbrev pub unless_refused : Option MailError → List PlainProcess → Result (List PlainProcess) MailError
unless_refused (Some why) processes = Err why
unless_refused None processes = Ok processes

-- the processes after a message was sent, or the first refusal that applies
abbrev pub send_message : List PlainProcess → ℕ → ℕ → ℕ → Result (List PlainProcess) MailError
send_message processes sender to word =
    unless_refused (send_refusal (process_at processes to))
    (deliver processes to (process_at processes to) (sender, word))
