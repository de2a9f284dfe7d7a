use Rattle.std.proofs.Common.{ℕ, ◌<◌}
use Rattle.mx_core.specs.Causes.{StruckAt}
use Rattle.mx_worlds.specs.Shows.{Shows}
use Rattle.mx_core.specs.World.{World}
use Rattle.mx_worlds.proofs.worlds.World.first_unstruck.Given as goal

abbrev pub invariant-loop-place : goal.invariant-loop-place
invariant-loop-place l = (w : World) → Shows l.self w → (p n : ℕ) → p < l.place → StruckAt w p n
