use Rattle.std.proofs.Common.{sym}
use Rattle.mx_lint.proofs.FieldLaws.{not_alone}
use Rattle.mx_lint.proofs.faults.is_class_alone.Goals as goal

pub returns-in_default-Some : goal.returns-in_default-Some
returns-in_default-Some c = λ principal. sym (not_alone principal c.args.text.now _ _ _ c.in_default-Some.is-1 c.first_piece.ensures.pieces)
