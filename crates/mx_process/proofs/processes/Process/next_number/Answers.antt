use Rattle.std.proofs.Common.{◌≡◌, ◌+◌, ◌<◌, ◌^◌, length, arith, subst, sym}
use Rattle.mx_process.proofs.LegLaws.{at_number, number_fits}
use Rattle.mx_process.specs.Processes.{HasLine}
use Rattle.mx_process.proofs.processes.Process.next_number.Goals as goal

pub overflow_cast-result : goal.overflow_cast-result
overflow_cast-result g c =
    let fits : c.self.inside.state.first + length c.self.inside.state.recording.steps < 2 ^ 32
    = number_fits g.B.Sitting.session g.B.Sitting.setup g.B.Attending.accounts c.self.inside.script.now c.self.inside.cam _
    c.self.invariant (subst (HasLine g.B.Sitting.session) (sym c.self.view_is) c.requires) in
    let count : c.lines.result ≡ length c.self.inside.state.recording.steps = c.lines.ensures in
    omega (arith, fits, count)

pub overflow_add-result : goal.overflow_add-result
overflow_add-result g c =
    let fits : c.self.inside.state.first + length c.self.inside.state.recording.steps < 2 ^ 32
    = number_fits g.B.Sitting.session g.B.Sitting.setup g.B.Attending.accounts c.self.inside.script.now c.self.inside.cam _
    c.self.invariant (subst (HasLine g.B.Sitting.session) (sym c.self.view_is) c.requires) in
    let count : c.lines.result ≡ length c.self.inside.state.recording.steps = c.lines.ensures in
    omega (arith, fits, count)

pub returns : goal.returns
returns g c =
    at_number g.B.Sitting.session g.B.Sitting.setup g.B.Attending.accounts c.self.inside.script.now c.self.inside.cam _
    c.args.self.now c.lines.result c.self.invariant c.self.view_is c.requires c.lines.ensures
