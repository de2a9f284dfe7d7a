-- `change_wdir PATH` and `set_rules RULE ...`: what a process has of its own beside its known segments.
use Rattle.std.specs.Prelude.{ℕ, List, Result, Ok, Err}
use Rattle.mx_hier.specs.declared.refusals.Refusal.{Refusal}
use Rattle.mx_request.specs.declared.replies.Reply.TheVariants.{Done, Refused}
use Rattle.mx_search.specs.declared.rules.Rule.{Rule}
use Rattle.mx_state.specs.declared.states.ProcessState.{ProcessState}
use Rattle.mx_state.specs.Plain.{Plain, Answer, answer, with_process}

-- `change_wdir`: the working directory becomes the resolved path, or is refused
abbrev pub change_wdir : Plain → ℕ → ProcessState → Result (List (List ℕ)) Refusal → Answer
change_wdir state p process (Ok path) = answer Done (with_process state p (record process { working_directory = path }))
change_wdir state p process (Err why) = answer (Refused why) state

-- `set_rules`: these are the search rules, in this order
abbrev pub set_rules : Plain → ℕ → ProcessState → List Rule → Answer
set_rules state p process rules = answer Done (with_process state p (record process { rules = rules }))
