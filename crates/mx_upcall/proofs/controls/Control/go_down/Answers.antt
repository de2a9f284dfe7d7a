use Rattle.std.proofs.Common.{◌≡◌, length, Some, rules, sym, ◌∙◌, ap, subst}
use Rattle.mx_upcall.specs.Control.{Control, way_down, after_return}
use Rattle.mx_upcall.specs.Gates.{ReturnGates, popped}
use Rattle.mx_upcall.proofs.ChangeLaws.{used_up}
use Rattle.mx_upcall.proofs.controls.Control.go_down.Goals as goal

pub returns : goal.returns
returns c =
    let eight : length c.self.inside.registers.pr ≡ 8 = search rules in
    let after : ReturnGates → Control = λ gates. record { registers = c.downward-self-inside.result; gates = gates } in
    ap after c.pop.ensures.after
    ∙ subst (λ (k : Control). after (popped c.self.inside.gates) ≡ after_return k c.args.target.now) c.self.view_is
    (used_up (record { registers = c.self.inside.registers; gates = c.self.inside.gates }) c.args.target.now c.downward-self-inside.result c.args.gate.now
    (subst (λ (k : Control). way_down k c.args.target.now ≡ Some c.args.gate.now) (sym c.self.view_is) c.requires.way) eight
    c.downward-self-inside.ensures)
