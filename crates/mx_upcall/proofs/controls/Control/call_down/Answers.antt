use Rattle.std.proofs.Common.{◌≡◌, length, rules, ◌∙◌, ap, subst}
use Rattle.mx_call.specs.Transfers.{IsCalled}
use Rattle.mx_upcall.specs.Changes.{changed}
use Rattle.mx_upcall.specs.Control.{Control, after_call}
use Rattle.mx_upcall.specs.declared.controls.GateStep.TheVariants.{Kept}
use Rattle.mx_upcall.proofs.ChangeLaws.{kept_down}
use Rattle.mx_upcall.proofs.ControlLaws.{call_alike}
use Rattle.mx_upcall.proofs.controls.Control.call_down.Goals as goal

pub returns-in_err-registers-clause-granted : goal.returns-in_err-registers-clause-granted
returns-in_err-registers-clause-granted c =
    let same = call_alike c.args.self.now c.args.target.now c.args.desc.now c.requires in
    search rules

pub returns-clause-granted : goal.returns-clause-granted
returns-clause-granted c =
    let same = call_alike c.args.self.now c.args.target.now c.args.desc.now c.requires in
    search rules

pub returns-in_err-registers-clause-err : goal.returns-in_err-registers-clause-err
returns-in_err-registers-clause-err c =
    let same = call_alike c.args.self.now c.args.target.now c.args.desc.now c.requires in
    search rules

pub returns-clause-ok : goal.returns-clause-ok
returns-clause-ok c =
    let eight : length c.self.inside.registers.pr ≡ 8 = search rules in
    let is : IsCalled c.self.inside.registers c.args.target.now c.args.desc.now c.in_ok-registers.registers = search rules in
    ap (changed c.args.self.now) c.keeping.ensures
    ∙ subst (λ (k : Control). changed k (record { registers = c.in_ok-registers.registers; gates = Kept }) ≡ after_call k c.args.target.now c.args.desc.now)
    c.self.view_is
    (kept_down (record { registers = c.self.inside.registers; gates = c.self.inside.gates }) c.args.target.now c.args.desc.now
    c.in_ok-registers.registers c.requires eight is)
