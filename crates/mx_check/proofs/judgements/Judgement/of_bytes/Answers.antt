use Rattle.std.proofs.Common.{Err, ap, subst, sym}
use Rattle.mx_both.specs.BothTexts.{IsSomeBoth}
use Rattle.mx_reader.specs.FirstBadLine.{IsFirstBad}
use Rattle.mx_check.proofs.judgements.Judgement.of_bytes.Goals as goal

pub returns-in-Err-BadLine : goal.returns-in-Err-BadLine
returns-in-Err-BadLine g c =
    subst (IsFirstBad IsSomeBoth c.args.bytes.now) (sym c.in-Err-BadLine.line-is)
    (c.in-Err-BadLine.ensures.bad_line c.in-Err-BadLine.line (ap Err c.in-Err-BadLine.field-0-is))
