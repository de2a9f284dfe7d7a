use Rattle.mx_drill.proofs.SessionLaws.{few_lines}
use Rattle.mx_drill.proofs.laws.each_drill_is_short.Goals as goal

pub returns : goal.returns
returns c = few_lines
