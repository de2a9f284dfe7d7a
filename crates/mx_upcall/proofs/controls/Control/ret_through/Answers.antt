use Rattle.std.proofs.Common.{◌≡◌, length, Some, rules, sym, subst}
use Rattle.mx_upcall.specs.Changes.{changed}
use Rattle.mx_upcall.specs.Control.{Control, way_down, after_return}
use Rattle.mx_upcall.specs.declared.controls.GateStep.TheVariants.{Used}
use Rattle.mx_upcall.proofs.ChangeLaws.{used_up}
use Rattle.mx_upcall.proofs.controls.Control.ret_through.Goals as goal

pub returns-clause-ok : goal.returns-clause-ok
returns-clause-ok c =
    let eight : length c.self.inside.registers.pr ≡ 8 = search rules in
    subst (λ (k : Control). changed k (record { registers = c.downward.result; gates = Used }) ≡ after_return k c.args.target.now) c.self.view_is
    (used_up (record { registers = c.self.inside.registers; gates = c.self.inside.gates }) c.args.target.now c.downward.result c.args.gate.now
    (subst (λ (k : Control). way_down k c.args.target.now ≡ Some c.args.gate.now) (sym c.self.view_is) c.requires.way) eight c.downward.ensures)
