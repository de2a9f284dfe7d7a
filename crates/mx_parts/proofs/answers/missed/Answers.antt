use Rattle.std.proofs.Common.{rules}
use Rattle.mx_parts.proofs.AnswerLaws.{miss_answers}
use Rattle.mx_parts.proofs.answers.missed.Goals as goal

pub returns-then-is_reference : goal.returns-then-is_reference
returns-then-is_reference c = λ setting segno by.
    miss_answers setting c.args.control.now c.args.line.now c.args.work c.missed.result c.next.result segno by c.next.ensures.is
    (search rules) (c.missed.ensures.taken c.args.control.now c.args.line.now setting segno by)
    (c.missed.ensures.good c.args.control.now)
