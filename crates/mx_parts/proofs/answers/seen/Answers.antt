use Rattle.std.proofs.Common.{rules}
use Rattle.mx_parts.proofs.AnswerLaws.{element_answers, element_never}
use Rattle.mx_parts.proofs.answers.seen.Goals as goal

pub returns-then-is_asked_element : goal.returns-then-is_asked_element
returns-then-is_asked_element c = λ setting on.
    element_answers setting c.args.control.now c.args.line.now c.args.work c.seen.result c.next.result c.args.element.now c.args.desc.now
    on c.next.ensures.is (search rules) (c.seen.ensures.taken setting on) c.seen.ensures.good

pub returns-else-is_asked_element : goal.returns-else-is_asked_element
returns-else-is_asked_element c = λ setting on.
    element_never setting c.args.control.now c.args.line.now c.args.work c.next.result c.args.element.now c.args.desc.now
    on c.next.ensures.is (search rules)
