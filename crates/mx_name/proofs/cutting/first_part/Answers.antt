use Rattle.std.proofs.Common.{ap, ◌∙◌, sym}
use Rattle.mx_name.specs.Parts.{parts_by}
use Rattle.mx_name.proofs.CutLaws.{parts_cut}
use Rattle.mx_name.proofs.cutting.first_part.Goals as goal

pub returns-clause-parts : goal.returns-clause-parts
returns-clause-parts c =
    parts_cut c.args.mark c.args.text.now ∙ ap (parts_by c.args.mark c.args.text.now) (sym c.near_cut.ensures.cut)
