-- Several lines in one stay inside.
use Rattle.std.specs.Prelude.{◌≡◌, ℕ, ◌<◌, ◌≤◌, List, [], ◌++◌, length, Option, None, Some}
use Rattle.mx_audit.specs.Accounts.{Account}
use Rattle.mx_line.specs.declared.operands.Progress.TheVariants.{Before, Waiting}
use Rattle.mx_rule.specs.Entering.{left_view}
use Rattle.mx_script.specs.Sessions.{Outline}
use Rattle.mx_script.specs.declared.lines.Line.{Line}
use Rattle.mx_sdw.specs.declared.denials.Denial.{Denial}
use Rattle.mx_state.specs.declared.journal.Entry as journaled
use Rattle.mx_transcript.specs.Denials.{denials, last_denial}
use Rattle.mx_transcript.specs.Transcripts.{Step}
use Rattle.mx_process.specs.Audited.{as_list}
use Rattle.mx_process.specs.Lines.{IsOwn}
use Rattle.mx_process.specs.Plans.{left_of}
use Rattle.mx_process.specs.Processes.{IsProcess, ProcessValue}
use Rattle.mx_process.specs.Turns.{Inside}
use Rattle.mx_process.specs.declared.misses.Miss.{Miss}
use Rattle.mx_process.specs.declared.stays.Stayed.{Stayed}
use Rattle.mx_process.specs.declared.stays.Stayed.TheVariants as stayed

-- where a process stands once it has left
abbrev pub gone_out : Inside → Inside
gone_out v = record v { pass = record v.pass { view = left_view v.pass.view } }

-- a process without its auditor, with this miss that is still to be settled, or none
abbrev pub unaudited : Option Miss → Inside → ProcessValue
unaudited missing v = record { state = v.state; missing = missing; pass = v.pass; account = None }

-- it is as its type says, but for its auditor
abbrev pub IsUnaudited : Outline → List journaled.Entry → List Account → List Line → Option Miss → Inside → Type 0
IsUnaudited x setup accounts script missing v = IsProcess x setup accounts script v.pass.view.memory (unaudited missing v)

-- Some lines of a process have ended, maybe none, and it does not wait. Its auditor is to be told of this denial, or of none:
-- no other of the lines was denied.
pub record HasHurried (x : Outline) (setup : List journaled.Entry) (accounts : List Account) (script : List Line) (old : Inside)
    (missing : Option Miss) (told : Option (ℕ × Denial)) (new : Inside) : Type 0 where
  pub whole : IsUnaudited x setup accounts script missing new
  pub first : new.state.first ≡ old.state.first
  pub awake : new.state.progress ≡ Waiting → ⊥
  pub process : new.pass.view.process ≡ old.pass.view.process
  pub more : List Step
  pub steps : new.state.recording.steps ≡ old.state.recording.steps ++ more
  pub denied : denials more ≡ as_list told

-- the last of them was denied, and is not the last of the script; the next has not begun
pub record HasDenied (x : Outline) (setup : List journaled.Entry) (accounts : List Account) (script : List Line)
    (old new : Inside) : Type 0 where
  pub told : ℕ × Denial
  pub last : last_denial new.state.recording.steps ≡ Some told
  pub hurried : HasHurried x setup accounts script old None (Some told) new
  pub fresh : new.state.progress ≡ Before
  pub idle : new.state.recording.events ≡ []
  pub within : length new.state.recording.steps < length script

-- what a stay came to
abbrev pub HasStayed : Outline → List journaled.Entry → List Account → List Line → Inside → Stayed → Inside → Type 0
HasStayed x setup accounts script old stayed.Over new = HasHurried x setup accounts script old None None new
HasStayed x setup accounts script old stayed.Denied new = HasDenied x setup accounts script old new
HasStayed x setup accounts script old (stayed.Missing m) new = HasHurried x setup accounts script old (Some m) None new

-- and one line of it: the stay goes on at the beginning of the next one, or is over
abbrev pub HasDoneNext : Outline → List journaled.Entry → List Account → List Line → Inside → Option Stayed → Inside → Type 0
HasDoneNext x setup accounts script old None new =
    HasHurried x setup accounts script old None None new × (new.state.progress ≡ Before)
HasDoneNext x setup accounts script old (Some came) new = HasStayed x setup accounts script old came new

-- fewer lines are left
abbrev pub HasFewerLines : Outline → ProcessValue → ProcessValue → Type 0
HasFewerLines x old new = length (left_of x new.pass.view.process new.state) < length (left_of x old.pass.view.process old.state)

-- some lines of a process have ended, maybe none, and no fewer are left out
pub record HasDoneMore (old new : ProcessValue) : Type 0 where
  pub own : IsOwn old new
  pub onward : old.state.first ≤ new.state.first
  pub more : List Step
  pub steps : new.state.recording.steps ≡ old.state.recording.steps ++ more
