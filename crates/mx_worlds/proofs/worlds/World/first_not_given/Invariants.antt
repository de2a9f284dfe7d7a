use Rattle.std.proofs.Common.{ℕ, ◌<◌}
use Rattle.mx_core.specs.Append.{IsCoveredAt}
use Rattle.mx_worlds.specs.Shows.{Shows}
use Rattle.mx_core.specs.World.{World}
use Rattle.mx_worlds.proofs.worlds.World.first_not_given.Given as goal

abbrev pub invariant-loop-page : goal.invariant-loop-page
invariant-loop-page l = (w : World) → Shows l.self w → (j : ℕ) → j < l.page
    → IsCoveredAt w l.changes l.given j
