use Rattle.std.proofs.Common.{rules, inl}
use Rattle.mx_process.proofs.LegLaws.{no_line_left}
use Rattle.mx_process.proofs.processes.Process.beginning.Goals as goal

pub returns-then-not-has_line-clause-none : goal.returns-then-not-has_line-clause-none
returns-then-not-has_line-clause-none g c e =
    inl (no_line_left g.B.Sitting.session c.args.self.now c.has_line.result c.has_line.ensures (search rules))
