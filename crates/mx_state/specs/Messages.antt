-- `wakeup P WORD`, `block`, `resume` and `logout`: the requests on messages, and on who runs, waits or has ended. Process
-- 0 has no place in the mail: it counts neither as a process that waits nor as one that can be woken.
use Rattle.std.specs.Prelude.{ℕ, nat_le, Bool, true, false, List, [], ◌∷◌, length, Option, Some, None, Result, Ok, Err}
use Rattle.mx_hier.specs.Rules.{first_of, unless}
use Rattle.mx_hier.specs.declared.refusals.Refusal.{Refusal}
use Rattle.mx_hier.specs.declared.refusals.Refusal.TheVariants.{NoProcess, Ended, MailFull}
use Rattle.mx_mail.specs.Processes as mail
use Rattle.mx_mail.specs.Processes.{PlainProcess}
use Rattle.mx_mail.specs.Sending.{deliver}
use Rattle.mx_mail.specs.Taking as taking
use Rattle.mx_mail.specs.Taking.{take_message}
use Rattle.mx_mail.specs.declared.mail.Taken.{Taken}
use Rattle.mx_mail.specs.declared.mail.Taken.TheVariants as taken
use Rattle.mx_mail.specs.declared.processes.ExecutionState.{ExecutionState}
use Rattle.mx_mail.specs.declared.processes.ExecutionState.TheVariants as execution
use Rattle.mx_request.specs.declared.replies.Reply.{Reply}
use Rattle.mx_request.specs.declared.replies.Reply.TheVariants.{Done, Refused, Sent, Message, Nobody, Waiting}
use Rattle.mx_state.specs.Plain.{Plain, Answer, answer}

abbrev pub has_ended : ExecutionState → Bool
has_ended execution.Running = false
has_ended execution.Waiting = false
has_ended execution.Ended = true

-- there is no such process; it has ended; 64 messages wait for it
abbrev pub wakeup_refusals : Option PlainProcess → List (Bool × Refusal)
wakeup_refusals None = (true, NoProcess) ∷ []
wakeup_refusals (Some process) = (has_ended process.state, Ended) ∷ (nat_le 64 (length process.messages), MailFull) ∷ []

abbrev pub sent : Plain → Result (List PlainProcess) Refusal → Answer
sent state (Ok after) = answer Sent (record state { mail = after })
sent state (Err why) = answer (Refused why) state

-- `wakeup`: the message of process p, its number and the word, waits behind the others
abbrev pub wakeup : Plain → ℕ → ℕ → ℕ → Answer
wakeup state p to word =
    let receiver : Option PlainProcess = mail.process_at state.mail to in
    sent state (unless (first_of (wakeup_refusals receiver)) (deliver state.mail to receiver (p, word)))

abbrev pub taken_reply : Taken → Reply
taken_reply (taken.Message sender word) = Message sender word
taken_reply taken.Nobody = Nobody
taken_reply taken.Waiting = Waiting

-- `block` and `resume`: the oldest message of process p, which is taken; without one, nobody, where every other process
-- has ended or waits without mail; else p waits
abbrev pub block : Plain → ℕ → Answer
block state p =
    let given : taking.TakeAnswer = take_message state.mail p in
    answer (taken_reply given.taken) (record state { mail = given.processes })

-- `logout`: the process has ended, and its messages are dropped; its known segments stay as they were
abbrev pub logout : Plain → ℕ → Answer
logout state p = answer Done (record state { mail = mail.end_process state.mail p })

-- `block` by process p would not be answered `waiting`
abbrev pub is_ready : Plain → ℕ → Bool
is_ready state p = taking.is_ready state.mail p
