use Rattle.std.proofs.Common.{length, subst, sym}
use Rattle.mx_points.specs.Fronts.{IsFirstBad}
use Rattle.mx_legal.specs.Fronts.{IsGoodTo}
use Rattle.mx_legal.proofs.DeciderLaws.{first_of_part}
use Rattle.mx_legal.proofs.fronts.first_bad.Goals as goal

pub returns : goal.returns
returns c =
    subst (IsFirstBad (IsGoodTo c.args.session.now c.args.journal.now c.args.transcripts.now c.args.p) (length c.args.lines.now))
    (sym c.earlier.ensures)
    (first_of_part c.args.session.now c.args.journal.now c.args.transcripts.now c.args.p c.args.lines.now c.requires.lines
    c.first_bad_step-step.result c.in_ok-deed.deed c.line_of.result c.first_bad_step-step.ensures c.in_ok-deed.ensures c.line_of.ensures)
