use Rattle.std.proofs.Common.{Err, ap, subst, sym}
use Rattle.mx_both.specs.BothTexts.{IsSomeBoth}
use Rattle.mx_reader.specs.FirstBadLine.{IsFirstBad}
use Rattle.mx_breach.proofs.sources.tell_bytes.Goals as goal

pub tell_bad_line-requires : goal.tell_bad_line-requires
tell_bad_line-requires g c =
    subst (IsFirstBad IsSomeBoth c.args.bytes.now) (sym c.in-Err-BadLine.number-is)
    (c.in-Err-BadLine.ensures.bad_line c.in-Err-BadLine.number (ap Err c.in-Err-BadLine.field-0-is))
