use Rattle.std.specs.Prelude.{Some}
use Rattle.mx_line.specs.AtWork.{left}
use Rattle.mx_process.proofs.EntryLaws.{left_so, stands_so}
use Rattle.mx_process.proofs.entries.take_answer.Goals as goal

pub returns-in-Some-clause-answered : goal.returns-in-Some-clause-answered
returns-in-Some-clause-answered c = record {
  work = left c.args.state.now.control (Some c.in-Some.ends);
  stands = stands_so c.args.state.now c.args.line.now c.args.answer.now c.reply_like-reply.result
      (left c.args.state.now.control (Some c.in-Some.ends)) c.reply_like-reply.ensures c.in-Some.ensures.taken;
  left = left_so c.args.state.now c.args.line.now c.args.answer.now c.reply_like-reply.result
      (left c.args.state.now.control (Some c.in-Some.ends)) c.reply_like-reply.ensures c.in-Some.ensures.taken c.requires.replied;
  goes = record {
    first = c.end_plainly.ensures.first;
    control = c.end_plainly.ensures.done;
    steps = c.end_plainly.ensures.steps;
    idle = c.end_plainly.ensures.idle;
    progress = c.end_plainly.ensures.fresh;
  };
}
