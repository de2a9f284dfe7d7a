use Rattle.mx_request.proofs.ReplyLaws.{one_reply}
use Rattle.mx_request.proofs.laws.each_reply_has_its_own_text.Goals as goal

pub returns-clause-own : goal.returns-clause-own
returns-clause-own c = one_reply
