use Rattle.std.proofs.Common.{◌≡◌, ◌≤◌, ◌-◌, ◌∙◌, Some, ap, length, subst, sym}
use Rattle.std.specs.List.{slice_get}
use Rattle.mx_process.proofs.ProcessLaws.{attended}
use Rattle.mx_process.specs.Processes.{ProcessValue, script_of}
use Rattle.mx_process.proofs.processes.Process.attend.Goals as goal

pub invariant_of-self : goal.invariant_of-self
invariant_of-self g c =
    let account = g.A.Auditor.account c.args.auditor in
    attended g.B.Sitting.session g.B.Sitting.setup g.B.Attending.accounts c.self.inside.script.now c.self.inside.cam _ account
    c.self.invariant
    (subst (λ (v : ProcessValue). slice_get g.B.Attending.accounts (v.pass.view.process - 1) ≡ Some account) (sym c.self.view_is)
    c.requires.own)
    (ap (λ (v : ProcessValue). v.state.recording.steps) c.self.view_is ∙ c.requires.begun)
    (subst (λ (v : ProcessValue). length (script_of g.B.Sitting.session v.pass.view.process) ≤ account.room) (sym c.self.view_is)
    c.requires.room)
