use Rattle.std.proofs.Common.{ap, ◌∙◌, sym}
use Rattle.mx_name.specs.Parts.{parts_by}
use Rattle.mx_name.proofs.CutLaws.{parts_cut}
use Rattle.mx_lint.proofs.faults.first_piece.Goals as goal

pub returns-in-Some-clause-pieces : goal.returns-in-Some-clause-pieces
returns-in-Some-clause-pieces c = parts_cut 32 c.args.text.now ∙ ap (parts_by 32 c.args.text.now) (sym c.in-Some.ensures.cut)

pub returns-in-None-clause-pieces : goal.returns-in-None-clause-pieces
returns-in-None-clause-pieces c = parts_cut 32 c.args.text.now ∙ ap (parts_by 32 c.args.text.now) (sym c.in-None.ensures.cut)
