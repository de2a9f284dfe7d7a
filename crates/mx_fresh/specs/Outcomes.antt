-- Helpers: what a link comes to, as the program has it before anything changes.
use Rattle.std.specs.Prelude.{ℕ, Result, Ok, Err}
use Rattle.mx_request.specs.declared.replies.Reply.{Reply}
use Rattle.mx_state.specs.Knowing.{linked}
use Rattle.mx_state.specs.Plain.{Plain, Answer, answer}
use Rattle.mx_state.specs.declared.states.ProcessState.{ProcessState}
use Rattle.mx_fresh.specs.Connections.{connected_of}
use Rattle.mx_fresh.specs.declared.resolving.Leading.{Leading}

-- the segment to which it leads is to become known, or this is replied
abbrev pub leading_of : Plain → ℕ → ProcessState → Result Leading Reply → Answer
leading_of state p process (Ok leading) =
    linked state p process leading.word (connected_of state.hierarchy (Ok leading.connection))
leading_of state p process (Err reply) = answer reply state
