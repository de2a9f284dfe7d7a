use Rattle.mx_reader.proofs.FrontLaws.{found_in, only_in}
use Rattle.mx_reader.proofs.ReplyLaws.{exact_replies}
use Rattle.mx_reader.proofs.replies.read_reply.Goals as goal

pub returns-clause-found : goal.returns-clause-found
returns-clause-found c = found_in exact_replies c.args.text.now _ c.read_any.ensures

pub returns-clause-only : goal.returns-clause-only
returns-clause-only c = λ reply is. only_in exact_replies c.args.text.now _ c.read_any.ensures reply is
