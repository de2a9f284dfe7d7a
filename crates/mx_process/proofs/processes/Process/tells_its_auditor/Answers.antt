use Rattle.std.proofs.Common.{◌≡◌, ◌≤◌, ◌-◌, None, length, slice_get, subst}
use Rattle.mx_transcript.specs.Scripts.{lines_of}
use Rattle.mx_process.specs.Audited.{IsAudited}
use Rattle.mx_process.specs.Plans.{IsUncut, place_in}
use Rattle.mx_process.specs.Processes.{ProcessValue}
use Rattle.mx_process.proofs.processes.Process.tells_its_auditor.Goals as goal

pub returns-clause-audited : goal.returns-clause-audited
returns-clause-audited g c =
    subst (λ (v : ProcessValue). IsAudited g.B.Sitting.session v.pass.view.process
    (slice_get g.B.Attending.accounts (v.pass.view.process - 1)) v.state v.account) c.self.view_is c.self.invariant.audited

pub returns-clause-alone : goal.returns-clause-alone
returns-clause-alone g c =
    subst (λ (v : ProcessValue). slice_get g.B.Attending.accounts (v.pass.view.process - 1) ≡ None
    → IsUncut g.B.Sitting.session v.pass.view.process v.state) c.self.view_is c.self.invariant.alone

pub returns-clause-within : goal.returns-clause-within
returns-clause-within g c =
    subst (λ (v : ProcessValue). place_in g.B.Sitting.session v.pass.view.process v.state
    ≤ length (lines_of g.B.Sitting.session v.pass.view.process)) c.self.view_is c.self.invariant.within
