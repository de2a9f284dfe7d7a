use Rattle.std.proofs.Common.{ℕ, ◌<◌}
use Rattle.mx_worlds.specs.Tables.{row_in, AreAdmissible}
use Rattle.mx_worlds.proofs.tables.DescList.is_admissible.Given as goal

abbrev pub invariant-loop-row : goal.invariant-loop-row
invariant-loop-row l = (i : ℕ) → i < l.row-index → AreAdmissible (row_in l.self.rows.items i)
