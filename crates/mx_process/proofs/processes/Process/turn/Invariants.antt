use Rattle.mx_process.specs.Lines.{HasGoneOn}
use Rattle.mx_process.proofs.processes.Process.turn.Given as goal

-- no line has ended so far
abbrev pub invariant-loop : goal.invariant-loop
invariant-loop g l = HasGoneOn l.initial.self l.self
