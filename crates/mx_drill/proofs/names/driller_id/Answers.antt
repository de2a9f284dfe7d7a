use Rattle.mx_drill.proofs.DrillLaws.{driller_id_read}
use Rattle.mx_drill.proofs.names.driller_id.Goals as goal

pub returns : goal.returns
returns c = cc (c.in-Ok.ensures.answer, driller_id_read c.args.p c.requires.least c.requires.most)
