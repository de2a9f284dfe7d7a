use Rattle.mx_reader.proofs.FirstBadLaws.{one_first_bad}
use Rattle.mx_reader.specs.RunTexts.{IsSomeRun}
use Rattle.mx_reader.proofs.laws.bytes_have_one_first_bad_line.Goals as goal

pub returns : goal.returns
returns c = one_first_bad IsSomeRun
