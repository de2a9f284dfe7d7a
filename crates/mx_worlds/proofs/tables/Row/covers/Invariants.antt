use Rattle.std.proofs.Common.{ℕ, ◌<◌}
use Rattle.std.specs.Prelude.{IsTrue}
use Rattle.mx_core.specs.Pages.{covers}
use Rattle.mx_worlds.specs.Tables.{desc_in}
use Rattle.mx_worlds.proofs.tables.Row.covers.Given as goal

abbrev pub invariant-loop-desc : goal.invariant-loop-desc
invariant-loop-desc l = (n : ℕ) → n < l.desc-index → IsTrue (covers (desc_in l.self n) l.page) → ⊥
