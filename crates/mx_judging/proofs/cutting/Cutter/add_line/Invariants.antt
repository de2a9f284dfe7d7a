use Rattle.std.proofs.Common.{◌≡◌}
use Rattle.mx_judging.specs.Cutting.{lines_begun}
use Rattle.mx_judging.proofs.cutting.Cutter.add_line.Given as goal

-- no other line is begun
abbrev pub invariant-loop-first : goal.invariant-loop-first
invariant-loop-first l = lines_begun l.self.moments.items ≡ lines_begun l.initial.self.moments.items
