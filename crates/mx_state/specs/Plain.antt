-- The state of the plain supervisor, and its answer to a request.
use Rattle.std.specs.Prelude.{ℕ, ◌==◌, ◌-◌, List, Option, None, slice_get, slice_set, if◌then◌else◌}
use Rattle.mx_hier.specs.Branches.{Hierarchy}
use Rattle.mx_mail.specs.Processes.{PlainProcess}
use Rattle.mx_request.specs.declared.replies.Reply.{Reply}
use Rattle.mx_state.specs.declared.states.ProcessState.{ProcessState}

-- The version of the session; the hierarchy; the processes 1, 2, .. in order, with what each has of its own; and of each
-- in the same order whether it runs, waits or has ended, and the messages that wait for it.
pub record Plain : Type 0 where
  pub version : ℕ
  pub hierarchy : Hierarchy
  pub processes : List ProcessState
  pub mail : List PlainProcess

-- a reply, and the state after it
pub record Answer : Type 0 where
  pub reply : Reply
  pub state : Plain

abbrev pub answer : Reply → Plain → Answer
answer reply state = record { reply = reply; state = state }

-- process p: they are counted from 1
abbrev pub process_at : List ProcessState → ℕ → Option ProcessState
process_at processes p = if p == 0 then None else slice_get processes (p - 1)

abbrev pub with_process : Plain → ℕ → ProcessState → Plain
with_process state p process = record state { processes = slice_set state.processes (p - 1) process }
