use Rattle.mx_both.specs.BothTexts.{IsSomeBoth}
use Rattle.mx_reader.proofs.FirstBadLaws.{one_first_bad}
use Rattle.mx_both.proofs.laws.bytes_have_one_first_bad_line.Goals as goal

pub returns : goal.returns
returns c = one_first_bad IsSomeBoth
