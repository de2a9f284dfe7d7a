use Rattle.std.proofs.Common.{◌≡◌, map, take}
use Rattle.mx_state.specs.History.{fresh}
use Rattle.mx_fresh.proofs.processes.fresh_processes.Given as goal

-- the processes of the entrants so far
abbrev pub invariant-loop-entrant : goal.invariant-loop-entrant
invariant-loop-entrant l = l.processes.items ≡ map (fresh l.version) (take l.entrant-index l.entrants)
