-- A note, as contracts see it.
use Rattle.std.specs.Prelude.{◌≡◌, ℕ, ◌+◌, length}
use Rattle.atomic_table.specs.Seated.{TableId}
use Rattle.mx_rule.specs.declared.views.NoteView.{NoteView}

-- what its type says: it is of the run's table, and tells of just the entries that its floor counts
pub record IsNote {E : Type 0} (table place : TableId) (start : ℕ) (u : NoteView E) : Type 0 where
  pub here : place ≡ table
  pub told : start + length u.history ≡ u.floor
