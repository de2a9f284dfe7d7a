-- Who runs, waits or has ended: what the journal says of it, and that not all can wait for one another.
use Rattle.std.specs.Prelude.{◌≡◌, ◌≢◌, ◌⊎◌, ℕ, ◌≤◌, ◌==◌, true, false, List, [], ◌∷◌, length, Option, Some, if◌then◌else◌}
use Rattle.std.specs.Option.{option_map}
use Rattle.mx_mail.specs.Processes as mail
use Rattle.mx_mail.specs.declared.processes.ExecutionState.{ExecutionState}
use Rattle.mx_mail.specs.declared.processes.ExecutionState.TheVariants.{Running, Waiting, Ended}
use Rattle.mx_request.specs.declared.replies.Reply.{Reply}
use Rattle.mx_request.specs.declared.replies.Reply.TheVariants as reply
use Rattle.mx_request.specs.declared.entrants.Entrant.{Entrant}
use Rattle.mx_request.specs.declared.requests.Request.{Request}
use Rattle.mx_request.specs.declared.requests.Request.TheVariants as ask
use Rattle.mx_state.specs.declared.journal.Entry.{Entry}
use Rattle.mx_state.specs.History.{opening, replay, IsRight}
use Rattle.mx_state.specs.Messages.{is_ready}
use Rattle.mx_state.specs.Plain.{Plain}

-- what process p does now; process 0 has no place here
abbrev pub does : Plain → ℕ → Option ExecutionState
does s p = option_map (λ process. process.state) (mail.process_at s.mail p)

-- a process that asked for a message waits where that is the reply, and else it runs
abbrev pub replied : Reply → ExecutionState
replied reply.Waiting = Waiting
replied reply.Nobody = Running
replied (reply.Message sender word) = Running
replied reply.Sent = Running
replied reply.Done = Running
replied (reply.Refused why) = Running
replied (reply.Status status) = Running
replied (reply.Names names) = Running
replied (reply.Segno known) = Running
replied (reply.Linked segno word fresh linkage) = Running

-- what a process does after a request of its own: `block` and `resume` let it wait or run, `logout` ends it, and every
-- other request leaves that as it was
abbrev pub after_request : Request → Reply → ExecutionState → ExecutionState
after_request (ask.CreateDir path d1 d2) r old = old
after_request (ask.CreateSeg path words brackets) r old = old
after_request (ask.CreateObject path words brackets object) r old = old
after_request (ask.CreateLink path target) r old = old
after_request (ask.Rename path name) r old = old
after_request (ask.Delete path) r old = old
after_request (ask.SetAcl path id modes) r old = old
after_request (ask.DelAcl path id) r old = old
after_request (ask.SetIacl path kind id modes) r old = old
after_request (ask.DelIacl path kind id) r old = old
after_request (ask.SetBrackets path brackets) r old = old
after_request (ask.SetDirBrackets path d1 d2) r old = old
after_request (ask.SetClass path class) r old = old
after_request (ask.Status path) r old = old
after_request (ask.List path) r old = old
after_request (ask.ChangeWdir path) r old = old
after_request (ask.SetRules rules) r old = old
after_request (ask.Initiate path name) r old = old
after_request (ask.Terminate segno) r old = old
after_request (ask.Wakeup to word) r old = old
after_request ask.Block r old = replied r
after_request (ask.Link segno word) r old = old
after_request ask.Resume r old = replied r
after_request ask.Logout r old = Ended

-- what process p does after these entries, from its own ones alone
abbrev pub does_after : List Entry → ℕ → ExecutionState → ExecutionState
does_after [] p now = now
does_after (entry ∷ entries) p now =
    does_after entries p (if entry.process == p then after_request entry.request entry.reply now else now)

-- after a right journal each process does what its own entries say; before them it runs
abbrev pub DoesLaw : Type 0
DoesLaw = (version : ℕ) (entrants : List Entrant) (journal : List Entry) (p : ℕ)
    → IsRight (opening version entrants) journal → 1 ≤ p → p ≤ length entrants
    → does (replay (opening version entrants) journal) p ≡ Some (does_after journal p Running)

-- where a process waits, and none that waits is ready, another runs
abbrev pub OneRunsLaw : Type 0
OneRunsLaw = (s : Plain) (p : ℕ) → does s p ≡ Some Waiting
    → ((q : ℕ) → does s q ≡ Some Waiting → is_ready s q ≡ false)
    → (q : ℕ) × (does s q ≡ Some Running)

-- process q runs, or waits and is ready
abbrev pub IsAwake : Plain → ℕ → Type 0
IsAwake s q = (does s q ≡ Some Running) ⊎ ((does s q ≡ Some Waiting) × (is_ready s q ≡ true))

-- a process that is not ready waits for another that is awake
abbrev pub WaitsForLaw : Type 0
WaitsForLaw = (s : Plain) (p : ℕ) → 1 ≤ p → is_ready s p ≡ false → (q : ℕ) × (q ≢ p) × IsAwake s q
