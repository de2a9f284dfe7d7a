use Rattle.std.proofs.Common.{◌≡◌, fold, drop}
use Rattle.mx_hier.specs.Walks.{Reached, step}
use Rattle.mx_fresh.specs.Stops.{stop_of}
use Rattle.mx_fresh.proofs.hierarchy.FreshHierarchy.along.Given as goal

-- the names that are left lead from here where all lead from the start
abbrev pub invariant-loop-name : goal.invariant-loop-name
invariant-loop-name l = fold (step l.self) (stop_of l.stop) (drop l.name-index l.names) ≡ fold (step l.self) (Reached l.from) l.names
