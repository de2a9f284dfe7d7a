use Rattle.std.proofs.Common.{rules}
use Rattle.mx_request.specs.ReplyTexts.{reply_text}
use Rattle.mx_legal.proofs.SameLaws.{told_apart}
use Rattle.mx_legal.proofs.sameness.is_same_reply.Goals as goal

pub returns : goal.returns
returns c =
    told_apart reply_text c.args.one.now c.args.other.now c.as_slice.result.now c.as_slice-2.result.now c.is_same_text.result
    (search rules) (search rules)
    (c.each_reply_has_its_own_text.ensures.own c.args.one.now c.args.other.now c.requires.one c.requires.other)
    c.is_same_text.ensures
