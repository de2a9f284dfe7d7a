use Rattle.std.proofs.Common.{◌≡◌, length, IsOk, rules, sym, subst}
use Rattle.mx_sdw.specs.Judging.{judgement}
use Rattle.mx_upcall.specs.Changes.{changed}
use Rattle.mx_upcall.specs.Control.{Control, calling, after_call}
use Rattle.mx_upcall.specs.Upcalls.{upward_judgement}
use Rattle.mx_upcall.specs.declared.controls.GateStep.TheVariants.{Left}
use Rattle.mx_upcall.proofs.ChangeLaws.{granted_up, left_behind}
use Rattle.mx_upcall.proofs.controls.Control.call_up.Goals as goal

pub upward-registers-requires-clause-granted : goal.upward-registers-requires-clause-granted
upward-registers-requires-clause-granted c =
    let ok : IsOk (judgement c.args.desc.now (calling c.args.self.now c.args.target.now) c.args.target.now.ring c.args.target.now.word) = search rules in
    subst (λ (k : Control). IsOk (upward_judgement k.registers c.args.target.now c.args.desc.now)) (sym c.self.view_is)
    (granted_up c.args.self.now c.args.target.now c.args.desc.now c.requires ok).1

pub returns-clause-ok : goal.returns-clause-ok
returns-clause-ok c =
    let eight : length c.self.inside.registers.pr ≡ 8 = search rules in
    subst (λ (k : Control). changed k (record { registers = c.upward-registers.result.0; gates = Left c.upward-registers.result.1 })
    ≡ after_call k c.args.target.now c.args.desc.now) c.self.view_is
    (left_behind (record { registers = c.self.inside.registers; gates = c.self.inside.gates }) c.args.target.now c.args.desc.now
    c.upward-registers.result.0 c.upward-registers.result.1 c.requires eight c.upward-registers.ensures.after)

pub returns-clause-fits : goal.returns-clause-fits
returns-clause-fits c =
    let ok : IsOk (judgement c.args.desc.now (calling c.args.self.now c.args.target.now) c.args.target.now.ring c.args.target.now.word) = search rules in
    (granted_up c.args.self.now c.args.target.now c.args.desc.now c.requires ok).0
