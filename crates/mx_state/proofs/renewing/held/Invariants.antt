use Rattle.std.proofs.Common.{◌≡◌, ◌+◌, ◌++◌, drop}
use Rattle.mx_state.specs.Renewing.{held_from}
use Rattle.mx_state.proofs.renewing.held.Given as goal

-- all that is held is what is held so far and what the processes that are left hold
abbrev pub invariant-loop-process : goal.invariant-loop-process
invariant-loop-process l = record {
  number : l.p ≡ l.process-index + 1;
  held : held_from l.hier l.processes 1 l.processes l.uid
      ≡ l.held.items ++ held_from l.hier l.processes (l.process-index + 1) (drop l.process-index l.processes) l.uid;
}
