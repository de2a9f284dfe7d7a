use Rattle.std.proofs.Common.{ℕ, ◌<◌}
use Rattle.mx_sdw.specs.Admissible.{IsAdmissible}
use Rattle.mx_worlds.specs.Tables.{desc_in}
use Rattle.mx_worlds.proofs.tables.Row.is_admissible.Given as goal

abbrev pub invariant-loop-desc : goal.invariant-loop-desc
invariant-loop-desc l = (n : ℕ) → n < l.desc-index → IsAdmissible (desc_in l.self n)
