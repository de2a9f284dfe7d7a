use Rattle.std.proofs.Common.{◌≡◌, map, take}
use Rattle.mx_state.specs.History.{fresh}
use Rattle.mx_state.proofs.openings.fresh_processes.Given as goal

-- the processes of the principals so far
abbrev pub invariant-loop-principal : goal.invariant-loop-principal
invariant-loop-principal l = l.processes.items ≡ map fresh (take l.principal-index l.principals)
