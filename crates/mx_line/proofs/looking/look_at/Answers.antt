use Rattle.std.proofs.Common.{sym, ◌∙◌}
use Rattle.mx_line.proofs.StepLaws.{walking_looks}
use Rattle.mx_line.proofs.looking.look_at.Goals as goal

pub returns-in-Word : goal.returns-in-Word
returns-in-Word c =
    walking_looks c.args.control.now c.args.line.now c.args.walk.now
    (record { segno = c.in-Word.segno; word = c.in-Word.word; ring = c.in-Word.ring }) c.requires.good
    (sym c.want.ensures.value ∙ c.in-Word.is)
