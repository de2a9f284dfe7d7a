use Rattle.std.proofs.Common.{◌≡◌, Some, IfSome, sym, subst}
use Rattle.mx_effring.specs.declared.walks.Want.TheVariants.{Done}
use Rattle.mx_line.proofs.MoveLaws.{moves_first}
use Rattle.mx_line.proofs.OperandLaws.{first_low}
use Rattle.mx_line.specs.Operands.{first_want}
use Rattle.mx_line.specs.Processes.{HasPlainMove}
use Rattle.mx_line.specs.declared.moves.Going.{Going}
use Rattle.mx_line.specs.declared.operands.Progress.TheVariants.{Before}
use Rattle.std.specs.Prelude.{Option}
use Rattle.mx_upcall.specs.Control.{Control}
use Rattle.mx_line.proofs.at_work.first_move.Goals as goal

pub returns-in-Some : goal.returns-in-Some
returns-in-Some c =
    subst (λ (found : Option Going). IfSome found (HasPlainMove c.args.control.now c.args.line.now Before c.args.element.now c.args.desc.now))
    (sym c.going_at.ensures)
    (moves_first c.args.control.now c.args.line.now c.in-Some.target c.args.element.now c.args.desc.now c.in-Entered.ring
    (subst (λ (k : Control). first_want k.registers c.args.line.now ≡ Some (Done c.in-Some.target)) c.control.view_is c.in-Some.ensures.is)
    c.in-Entered.is c.requires.met c.requires.packable c.in-Some.ensures.target.packable (first_low c.args.desc.now c.requires.desc))
