-- What lies behind the lock, as contracts see it.
use Rattle.std.specs.Prelude.{ℕ, Bool}
use Rattle.mx_rule.specs.declared.views.SuperView.{SuperView}
use Rattle.mx_state.specs.declared.journal.Entry as journaled
use Rattle.mx_sup.specs.Supervised.{Supervised}

-- the journal, what the supervisor at the shared words knows, the total of the book, and whether the run is to end
pub record LockedValue : Type 0 where
  pub supervised : Supervised
  pub chief : SuperView journaled.Entry
  pub total : ℕ
  pub stopped : Bool
