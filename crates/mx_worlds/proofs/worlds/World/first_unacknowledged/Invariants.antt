use Rattle.std.proofs.Common.{ℕ, ◌<◌}
use Rattle.mx_core.specs.Causes.{AcknowledgedAt}
use Rattle.mx_worlds.specs.Shows.{Shows}
use Rattle.mx_core.specs.World.{World}
use Rattle.mx_worlds.proofs.worlds.World.first_unacknowledged.Given as goal

abbrev pub invariant-loop-place : goal.invariant-loop-place
invariant-loop-place l = (w : World) → Shows l.self w → (p : ℕ) → p < l.place → AcknowledgedAt w p
