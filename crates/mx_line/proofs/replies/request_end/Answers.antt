use Rattle.mx_line.proofs.TakenLaws.{request_ends}
use Rattle.mx_line.proofs.replies.request_end.Goals as goal

pub returns-in-Ask-clause-taken : goal.returns-in-Ask-clause-taken
returns-in-Ask-clause-taken c =
    request_ends c.args.control.now c.args.line.now c.args.reply.now c.reply_end.result c.requires.line c.reply_end.ensures.ends
