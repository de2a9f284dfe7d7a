use Rattle.mx_stores.specs.Tables.{AreLower}
use Rattle.mx_stores.proofs.stores.Table.step_to.Given as goal

-- those before are below the level
abbrev pub invariant-loop-here : goal.invariant-loop-here
invariant-loop-here l = AreLower l.self.reaches.items l.level l.start → AreLower l.self.reaches.items l.level l.here
