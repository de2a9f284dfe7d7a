use Rattle.std.proofs.Common.{length}
use Rattle.mx_process.specs.Lines.{IsAwake, IsOwn}
use Rattle.mx_process.specs.Plans.{left_of}
use Rattle.mx_process.proofs.processes.Process.run.Given as goal

-- the same process, which does not wait
abbrev pub invariant-loop-number : goal.invariant-loop-number
invariant-loop-number g l = IsOwn l.initial.self l.self × IsAwake l.self

-- the lines that are left
abbrev pub decreases-loop-number : goal.decreases-loop-number
decreases-loop-number g l = length (left_of g.B.Sitting.session l.self.pass.view.process l.self.state)
