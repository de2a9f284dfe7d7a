use Rattle.std.proofs.Common.{ℕ, ◌<◌}
use Rattle.std.specs.Prelude.{IsTrue}
use Rattle.mx_core.specs.Pages.{covers}
use Rattle.mx_worlds.specs.Shows.{Shows}
use Rattle.mx_core.specs.World.{World}
use Rattle.mx_worlds.proofs.worlds.World.is_covered.Given as goal

abbrev pub invariant-loop-place : goal.invariant-loop-place
invariant-loop-place l = (w : World) → Shows l.self w → (p n : ℕ) → p < l.place
    → IsTrue (covers (w.table w.length p n) l.page) → ⊥
