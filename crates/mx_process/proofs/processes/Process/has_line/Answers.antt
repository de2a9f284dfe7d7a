use Rattle.std.proofs.Common.{IsTrue, nat_lt, length, subst}
use Rattle.mx_process.proofs.ProcessLaws.{line_left}
use Rattle.mx_process.specs.Processes.{HasLine, ProcessValue}
use Rattle.mx_process.proofs.processes.Process.has_line.Goals as goal

pub returns : goal.returns
returns g c =
    subst (λ (v : ProcessValue). (IsTrue (nat_lt c.lines.result (length c.self.inside.script.now)) → HasLine g.B.Sitting.session v)
    × (HasLine g.B.Sitting.session v → IsTrue (nat_lt c.lines.result (length c.self.inside.script.now)))) c.self.view_is
    (line_left g.B.Sitting.session g.B.Sitting.setup g.B.Attending.accounts c.self.inside.script.now c.self.inside.cam _
    c.self.invariant c.lines.result c.lines.ensures)
