-- Who asks: the initializer as process 0, or a process in its working directory.
use Rattle.std.specs.Prelude.{ℕ, ◌==◌, List, [], Option, Some, None, codes, if◌then◌else◌}
use Rattle.mx_name.specs.Principals.{PlainPrincipal}
use Rattle.mx_aim.specs.Classes.{lowest}
use Rattle.mx_hier.specs.Callers.{Caller}
use Rattle.mx_request.specs.declared.replies.Reply.TheVariants.{Done}
use Rattle.mx_state.specs.declared.states.ProcessState.{ProcessState}
use Rattle.mx_state.specs.Plain.{Plain, Answer, answer, process_at}

-- nobody, where the number is that of no process
pub data Asker : Type 0 where
  Initializer : Asker
  Process : ProcessState → Asker
  Nobody : Asker

abbrev pub process_or_nobody : Option ProcessState → Asker
process_or_nobody (Some process) = Process process
process_or_nobody None = Nobody

abbrev pub asker : List ProcessState → ℕ → Asker
asker processes p = if p == 0 then Initializer else process_or_nobody (process_at processes p)

-- the principal that runs the setup, with the root as its working directory
abbrev pub initializer : PlainPrincipal
initializer = record { person = codes "Initializer"; project = codes "SysDaemon"; tag = codes "z" }

abbrev pub initial_caller : ℕ → Caller
initial_caller ring =
    record { subject = record { principal = initializer; authorization = lowest; ring = ring }; base = [] }

abbrev pub caller : ProcessState → ℕ → Caller
caller process ring =
    record {
      subject = record { principal = process.principal; authorization = process.authorization; ring = ring };
      base = process.working_directory;
    }

-- No right journal has a request that nobody may make: of a process that is not there, or of the initializer on a
-- process's own state. So that every journal can be replayed, it is answered `ok` and leaves the state.
abbrev pub unmade : Plain → Answer
unmade state = answer Done state

-- what a request on a path is answered, by its caller
abbrev pub answered_caller : Plain → Asker → ℕ → (Caller → Answer) → Answer
answered_caller state Initializer ring given = given (initial_caller ring)
answered_caller state (Process process) ring given = given (caller process ring)
answered_caller state Nobody ring given = unmade state

abbrev pub on_path : Plain → ℕ → ℕ → (Caller → Answer) → Answer
on_path state p ring given = answered_caller state (asker state.processes p) ring given

-- what a request on a process's own state is answered, by that
abbrev pub answered_process : Plain → Asker → (ProcessState → Answer) → Answer
answered_process state Initializer given = unmade state
answered_process state (Process process) given = given process
answered_process state Nobody given = unmade state

abbrev pub on_process : Plain → ℕ → (ProcessState → Answer) → Answer
on_process state p given = answered_process state (asker state.processes p) given
