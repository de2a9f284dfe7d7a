-- Clear by the supervisor.
use Rattle.std.specs.Prelude.{ℕ, ◌<◌, ◌≤◌, IsTrue, ◌∷◌}
use Rattle.mx_core.specs.Pages.{covers, page_of}
use Rattle.mx_core.specs.Words.{zero_cell}
use Rattle.mx_rule.specs.Codes.{cell_code}
use Rattle.mx_rule.specs.Layout.{Layout}
use Rattle.mx_rule.specs.Parts.{CellAt}
use Rattle.mx_rule.specs.Shown.{SuperView, Cleared, Office, office_of}
use Rattle.mx_rule.specs.Allowing.{OfficeWrites}

pub record MayClear (x : Office) (cell : ℕ) : Type 0 where
  pub range : cell < 65536
  pub rest : x.length ≤ x.answered
  pub bare : (p n : ℕ) → IsTrue (covers (x.table x.length p n) (page_of cell)) → ⊥

abbrev pub cleared_view : {E : Type 0} → ℕ → SuperView E → SuperView E
cleared_view cell v = record v { cleanings = Cleared cell ∷ v.cleanings }

abbrev pub ClearAllowed : Type 0 → Type 0
ClearAllowed S = (y : Layout) (v : SuperView S) (cell : ℕ) → MayClear (office_of v) cell
    → OfficeWrites S y v (CellAt cell) (cell_code zero_cell) (cleared_view cell v)
