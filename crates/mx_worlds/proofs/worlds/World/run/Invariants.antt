use Rattle.std.proofs.Common.{take}
use Rattle.mx_worlds.specs.Shows.{Shows}
use Rattle.mx_core.specs.Steps.{CanAll, after_all}
use Rattle.mx_core.specs.World.{World}
use Rattle.mx_worlds.proofs.worlds.World.run.Given as goal

abbrev pub invariant-loop-step : goal.invariant-loop-step
invariant-loop-step l = (w : World) → Shows l.initial.self w
    → CanAll w (take l.step-index l.steps) × Shows l.self (after_all w (take l.step-index l.steps))
