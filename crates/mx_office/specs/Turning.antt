-- Processes that take turns on one thread: which of those that were told to wait can go on.
use Rattle.std.specs.Prelude.{◌≡◌, ℕ, ◌≤◌, List, Some, slice_get}
use Rattle.mx_script.specs.Sessions.{Outline}
use Rattle.mx_office.specs.Blocking.{IsStuck}
use Rattle.mx_office.specs.Holding.{LockedValue}

-- each of these processes has to wait on
abbrev pub AreStuck : Outline → LockedValue → List ℕ → Type 0
AreStuck x locked waiting = (i p : ℕ) → slice_get waiting i ≡ Some p → IsStuck x locked p

-- one of these numbers is that of none of so many processes, or of one that can go on
pub record IsOneAwake (x : Outline) (processes : ℕ) (locked : LockedValue) (waiting : List ℕ) : Type 0 where
  pub place : ℕ
  pub process : ℕ
  pub at : slice_get waiting place ≡ Some process
  pub awake : 1 ≤ process → process ≤ processes → IsStuck x locked process → ⊥
