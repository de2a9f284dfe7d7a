use Rattle.mx_line.proofs.ProcessLaws.{replies_in}
use Rattle.mx_line.proofs.processes.Process.plain_reply.Goals as goal

pub returns-in-Before : goal.returns-in-Before
returns-in-Before c =
    replies_in c.args.self.now c.args.line.now c.args.reply.now c.request_end.result c.in-Before.is c.request_end.ensures.taken
    c.request_end.ensures.good
