use Rattle.std.proofs.Common.{◌≡◌, length, true, rules, sym, ◌∙◌, ap, subst, IsOk}
use Rattle.mx_upcall.specs.Control.{Control, after_call}
use Rattle.mx_upcall.specs.Gates.{ReturnGates, has_room, pushed}
use Rattle.mx_upcall.specs.Upcalls.{upward_judgement}
use Rattle.mx_upcall.proofs.ChangeLaws.{granted_up, left_behind}
use Rattle.mx_upcall.proofs.controls.Control.enter_up.Goals as goal

pub upward-registers-requires-clause-granted : goal.upward-registers-requires-clause-granted
upward-registers-requires-clause-granted c =
    subst (λ (k : Control). IsOk (upward_judgement k.registers c.args.target.now c.args.desc.now)) (sym c.self.view_is)
    (granted_up c.args.self.now c.args.target.now c.args.desc.now c.requires.below c.requires.granted).1

pub push-requires : goal.push-requires
push-requires c =
    subst (λ (k : Control). has_room k.gates ≡ true) (sym c.self.view_is)
    (granted_up c.args.self.now c.args.target.now c.args.desc.now c.requires.below c.requires.granted).0

pub returns : goal.returns
returns c =
    let eight : length c.self.inside.registers.pr ≡ 8 = search rules in
    let after : ReturnGates → Control = λ gates. record { registers = c.upward-registers.result.0; gates = gates } in
    ap after c.push.ensures
    ∙ subst (λ (k : Control). after (pushed c.self.inside.gates c.upward-registers.result.1)
    ≡ after_call k c.args.target.now c.args.desc.now) c.self.view_is
    (left_behind (record { registers = c.self.inside.registers; gates = c.self.inside.gates }) c.args.target.now c.args.desc.now
    c.upward-registers.result.0 c.upward-registers.result.1 c.requires.below eight c.upward-registers.ensures.after)
