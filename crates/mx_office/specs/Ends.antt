-- The two ends of a run: what it opens with, and what it leaves.
use Rattle.std.specs.Prelude.{◌≡◌, ℕ, List, [], false}
use Rattle.mx_closing.specs.Views.{views_in}
use Rattle.mx_desc.specs.Passes.{PassValue}
use Rattle.mx_script.specs.Sessions.{Outline}
use Rattle.mx_state.specs.declared.journal.Entry as journaled
use Rattle.mx_sup.specs.Supervised.{supervised}
use Rattle.mx_ties.specs.Closed.{IsClosed, followed}
use Rattle.mx_ties.specs.Views.{Marked}
use Rattle.mx_office.specs.Holding.{LockedValue}

-- the setup was entered and nothing else, and the run is not to end
pub record HasOpened (x : Outline) (setup : List journaled.Entry) (locked : LockedValue) : Type 0 where
  pub only : locked.supervised ≡ supervised x setup
  pub none : locked.chief.history ≡ []
  pub counted : locked.total ≡ 0
  pub running : locked.stopped ≡ false

-- The journal is the setup's entries and then those of a history. With it and with what these passes know of each process
-- the run is closed: it is one history of the plain supervisor within its limit, each trace is right on its descriptors,
-- all that was read is right, and the passes count as many entries as there are.
pub record HasFinished (x : Outline) (setup : List journaled.Entry) (passes : List (PassValue journaled.Entry))
    (left : List journaled.Entry) : Type 0 where
  pub history : List Marked
  pub journal : left ≡ followed setup history
  pub closed : IsClosed x setup history (views_in passes)
