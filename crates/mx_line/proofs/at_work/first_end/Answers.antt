use Rattle.mx_line.proofs.DirectLaws.{ends_found}
use Rattle.mx_line.proofs.at_work.first_end.Goals as goal

pub returns-else-is_word-clause-taken : goal.returns-else-is_word-clause-taken
returns-else-is_word-clause-taken c =
    ends_found c.args.control.now c.args.line.now c.args.element.now c.end_at.result (c.is_word.ensures.no c.if-is_word.false)
    c.end_at.ensures
