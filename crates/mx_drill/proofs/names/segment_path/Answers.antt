use Rattle.std.proofs.Common.{rules}
use Rattle.mx_drill.proofs.DrillLaws.{segment_spelled}
use Rattle.mx_drill.proofs.names.segment_path.Goals as goal

pub returns : goal.returns
returns c = rw (← segment_spelled c.args.s c.requires.least c.requires.most) (search rules)
