use Rattle.mx_process.specs.Lines.{HasGoneOn, IsAwake}
use Rattle.mx_process.proofs.processes.Process.line.Given as goal

-- no line has ended so far, and it does not wait
abbrev pub invariant-loop : goal.invariant-loop
invariant-loop g l = HasGoneOn l.initial.self l.self × IsAwake l.self
