use Rattle.mx_drill.proofs.SessionLaws.{drill_text}
use Rattle.mx_drill.proofs.laws.each_drill_has_its_text.Goals as goal

pub returns : goal.returns
returns c = drill_text
