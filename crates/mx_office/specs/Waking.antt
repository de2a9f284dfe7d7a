-- Whom an entry wakes of those who sleep until they are given a message or `nobody`.
use Rattle.std.specs.Prelude.{◌≡◌, ◌≢◌, ℕ, ◌≤◌, true, false, Some}
use Rattle.mx_mail.specs.declared.processes.ExecutionState.TheVariants.{Waiting}
use Rattle.mx_request.specs.declared.requests.Request.{Request}
use Rattle.mx_request.specs.declared.requests.Request.TheVariants as ask
use Rattle.mx_state.specs.Messages.{is_ready}
use Rattle.mx_state.specs.Plain.{Plain}
use Rattle.mx_state.specs.Requests.{plain}
use Rattle.mx_state.specs.Waiting.{does}
use Rattle.mx_office.specs.declared.waking.Woken.{Woken}
use Rattle.mx_office.specs.declared.waking.Woken.TheVariants.{Nobody, One, All}

-- process q is among those who are woken
abbrev pub Wakes : Woken → ℕ → Type 0
Wakes Nobody q = ⊥
Wakes (One p) q = q ≡ p
Wakes All q = Unit {0}

-- whoever waits and could not go on before this request of another process, and can go on after it, is woken
abbrev pub WakesAll : Woken → Request → Type 0
WakesAll woken request = (s : Plain) (p ring q : ℕ) → 1 ≤ p → q ≢ p → does s q ≡ Some Waiting
    → is_ready s q ≡ false → is_ready (plain s p ring request).state q ≡ true → Wakes woken q

-- a message wakes its receiver, and the end of a process all, since it may have been the last that could send one
abbrev pub woken_by : Request → Woken
woken_by (ask.CreateDir path d1 d2) = Nobody
woken_by (ask.CreateSeg path words brackets) = Nobody
woken_by (ask.CreateObject path words brackets object) = Nobody
woken_by (ask.CreateLink path target) = Nobody
woken_by (ask.Rename path name) = Nobody
woken_by (ask.Delete path) = Nobody
woken_by (ask.SetAcl path id modes) = Nobody
woken_by (ask.DelAcl path id) = Nobody
woken_by (ask.SetIacl path kind id modes) = Nobody
woken_by (ask.DelIacl path kind id) = Nobody
woken_by (ask.SetBrackets path brackets) = Nobody
woken_by (ask.SetDirBrackets path d1 d2) = Nobody
woken_by (ask.SetClass path class) = Nobody
woken_by (ask.Status path) = Nobody
woken_by (ask.List path) = Nobody
woken_by (ask.ChangeWdir path) = Nobody
woken_by (ask.SetRules rules) = Nobody
woken_by (ask.Initiate path name) = Nobody
woken_by (ask.Terminate segno) = Nobody
woken_by (ask.Wakeup to word) = One to
woken_by ask.Block = Nobody
woken_by (ask.Link segno word) = Nobody
woken_by ask.Resume = Nobody
woken_by ask.Logout = All
