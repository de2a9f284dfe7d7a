use Rattle.mx_drill.proofs.DrillLaws.{driller_read}
use Rattle.mx_drill.proofs.names.driller.Goals as goal

pub returns : goal.returns
returns c = cc (c.in-Ok.ensures.answer, driller_read c.args.p c.requires.least c.requires.most)
