-- What `block` leaves its process, of which the run, with its setup, and the ring are given: `o` before, `o'` after.
use Rattle.std.specs.Prelude.{◌≡◌, ◌≢◌, ℕ, ◌<◌, false, List, length}
use Rattle.mx_desc.specs.Passes.{PassValue}
use Rattle.mx_request.specs.declared.requests.Request.TheVariants.{Block, Resume}
use Rattle.mx_script.specs.Sessions.{Outline, limit_of}
use Rattle.mx_state.specs.Messages.{is_ready}
use Rattle.mx_state.specs.declared.journal.Entry as journaled
use Rattle.mx_sup.specs.Supervised.{state_of}
use Rattle.mx_office.specs.Holding.{LockedValue}
use Rattle.mx_office.specs.Serving.{HasEntered, HasMetLimit}
use Rattle.mx_office.specs.declared.answers.Answer.TheVariants.{Waiting}
use Rattle.mx_office.specs.declared.answers.Blocked.{Blocked}
use Rattle.mx_office.specs.declared.answers.Blocked.TheVariants as blocked
use Rattle.mx_office.specs.declared.answers.Served.{Served}

-- `block` was entered, and answered with something else than `waiting`
pub record IsAnswered (x : Outline) (setup : List journaled.Entry) (ring : ℕ) (served : Served)
    (o o' : PassValue journaled.Entry) : Type 0 where
  pub given : served.answer ≢ Waiting
  pub entered : HasEntered x setup ring Block served o o'

-- `block` was entered and answered `waiting`, and nothing after it
abbrev pub HasWaited : Outline → List journaled.Entry → ℕ → ℕ → PassValue journaled.Entry → PassValue journaled.Entry → Type 0
HasWaited x setup ring number o o' = HasEntered x setup ring Block (record { number = number; answer = Waiting }) o o'

-- `block` was entered and answered `waiting`, which left the process as it stands between, and then `resume` was entered
-- and answered with something else
pub record IsResumed (x : Outline) (setup : List journaled.Entry) (ring entry : ℕ) (resume : Served)
    (o o' : PassValue journaled.Entry) : Type 0 where
  pub between : PassValue journaled.Entry
  pub above : entry < resume.number
  pub given : resume.answer ≢ Waiting
  pub waited : HasWaited x setup ring entry o between
  pub entered : HasEntered x setup ring Resume resume between o'

-- `block` was entered and answered `waiting`, and then the journal was at its limit, so that `resume` was not entered
pub record IsCutShort (x : Outline) (setup : List journaled.Entry) (ring entry : ℕ) (o o' : PassValue journaled.Entry)
    : Type 0 where
  pub between : PassValue journaled.Entry
  pub waited : HasWaited x setup ring entry o between
  pub limit : HasMetLimit x (limit_of x) between o'

abbrev pub HasBlocked : Outline → List journaled.Entry → ℕ → Blocked → PassValue journaled.Entry
    → PassValue journaled.Entry → Type 0
HasBlocked x setup ring blocked.Shut o o' = HasMetLimit x (limit_of x) o o'
HasBlocked x setup ring (blocked.Answered served) o o' = IsAnswered x setup ring served o o'
HasBlocked x setup ring (blocked.Resumed entry resume) o o' = IsResumed x setup ring entry resume o o'
HasBlocked x setup ring (blocked.CutShort entry) o o' = IsCutShort x setup ring entry o o'

-- what keeps process p asleep that waits: the run goes on, the journal has room, and `resume` would be answered `waiting`
pub record IsStuck (x : Outline) (locked : LockedValue) (p : ℕ) : Type 0 where
  pub running : locked.stopped ≡ false
  pub below : length locked.supervised.journal < limit_of x
  pub unready : is_ready (state_of locked.supervised) p ≡ false
