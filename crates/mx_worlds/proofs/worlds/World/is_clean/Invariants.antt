use Rattle.std.proofs.Common.{ℕ, ◌<◌, ◌≤◌}
use Rattle.std.specs.Prelude.{IsTrue}
use Rattle.mx_worlds.specs.Shows.{Shows}
use Rattle.mx_core.specs.World.{World}
use Rattle.mx_worlds.proofs.worlds.World.is_clean.Given as goal

abbrev pub invariant-loop-cell : goal.invariant-loop-cell
invariant-loop-cell l = (w : World) → Shows l.self w → (c : ℕ) → l.first ≤ c → c < l.cell → IsTrue (w.clean c)
