-- What is decided before any memory is taken: a refusal that is found so far is told, and not the want of memory.
use Rattle.std.specs.Prelude.{◌≡◌, ℕ, List, [], Option, Some, None, Result, Ok, IsOk, IsSome}
use Rattle.mx_hier.specs.Callers.{Caller}
use Rattle.mx_hier.specs.Rules.{first_of}
use Rattle.mx_hier.specs.Walks.{resolved}
use Rattle.mx_hier.specs.declared.refusals.Refusal.{Refusal}
use Rattle.mx_kst.specs.Terminating.{terminate}
use Rattle.mx_mail.specs.Processes as mail
use Rattle.mx_request.specs.declared.requests.Request.{Request}
use Rattle.mx_request.specs.declared.requests.Request.TheVariants as ask
use Rattle.mx_state.specs.Askers.{asker}
use Rattle.mx_state.specs.Calling.{IsCallerOf}
use Rattle.mx_state.specs.Linking.{link_at}
use Rattle.mx_state.specs.Messages.{wakeup_refusals}
use Rattle.mx_state.specs.Plain.{Plain, process_at}
use Rattle.mx_state.specs.declared.states.ProcessState.{ProcessState}

-- the path of a request by pathname, resolved for who asks, or why it can't be: of `create_link` the first of the two
abbrev pub path_found : Caller → Request → Result (List (List ℕ)) Refusal
path_found who (ask.CreateDir path d1 d2) = resolved who path
path_found who (ask.CreateSeg path words brackets) = resolved who path
path_found who (ask.CreateObject path words brackets object) = resolved who path
path_found who (ask.CreateLink path target) = resolved who path
path_found who (ask.Rename path name) = resolved who path
path_found who (ask.Delete path) = resolved who path
path_found who (ask.SetAcl path id modes) = resolved who path
path_found who (ask.DelAcl path id) = resolved who path
path_found who (ask.SetIacl path kind id modes) = resolved who path
path_found who (ask.DelIacl path kind id) = resolved who path
path_found who (ask.SetBrackets path brackets) = resolved who path
path_found who (ask.SetDirBrackets path d1 d2) = resolved who path
path_found who (ask.SetClass path class) = resolved who path
path_found who (ask.Status path) = resolved who path
path_found who (ask.List path) = resolved who path
path_found who (ask.ChangeWdir path) = resolved who path
path_found who (ask.Initiate path name) = resolved who path
path_found who other = Ok []

-- the path can be resolved, for whoever asks
abbrev pub IsResolved : Plain → ℕ → ℕ → Request → Type 0
IsResolved s p ring request = (who : Caller) → IsCallerOf (asker s.processes p) ring who → IsOk (path_found who request)

-- What must be so where a request is answered by the want of memory. The number to be terminated is that of a known
-- segment; a message is refused by nothing; the word is one of a linkage section; `block`, `resume` and `logout` are
-- always answered; and the path of every other request can be resolved.
abbrev pub IsUndecided : Plain → ℕ → ℕ → Request → Type 0
IsUndecided s p ring (ask.Terminate segno) =
    (process : ProcessState) → process_at s.processes p ≡ Some process → IsSome (terminate process.known segno)
IsUndecided s p ring (ask.Wakeup to word) = first_of (wakeup_refusals (mail.process_at s.mail to)) ≡ None
IsUndecided s p ring (ask.Link segno word) =
    (process : ProcessState) → process_at s.processes p ≡ Some process → IsSome (link_at s.hierarchy process.known segno word)
IsUndecided s p ring ask.Block = ⊥
IsUndecided s p ring ask.Resume = ⊥
IsUndecided s p ring ask.Logout = ⊥
IsUndecided s p ring other = IsResolved s p ring other
