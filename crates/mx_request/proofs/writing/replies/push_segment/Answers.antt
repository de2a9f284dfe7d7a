use Rattle.mx_acl.specs.Modes.{modes_text}
use Rattle.mx_request.proofs.GrowthLaws.{grown_from, grown_last, grown_on, line_grows, three_pieces}
use Rattle.mx_request.proofs.writing.replies.push_segment.Goals as goal
use Rattle.mx_request.specs.ReplyTexts.{class_fields}

pub returns-in_err-push_brackets-clause-err : goal.returns-in_err-push_brackets-clause-err
returns-in_err-push_brackets-clause-err c = grown_on _ _ _ _ (_, c.in_ok-push_words.ensures.ok) c.in_err-push_brackets.ensures.err

pub returns-clause-ok : goal.returns-clause-ok
returns-clause-ok c = rw (line_grows (modes_text c.args.modes.now) (class_fields c.args.class)) (three_pieces _ _ _ _ _ _ _ _ c.in_ok-push_words.ensures.ok c.in_ok-push_brackets.ensures.ok c.push_last.ensures.ok)

pub returns-clause-err : goal.returns-clause-err
returns-clause-err c = grown_last c.push_last.result _ _ _ (grown_from _ _ _ _ c.in_ok-push_words.ensures.ok (_, c.in_ok-push_brackets.ensures.ok)) c.push_last.ensures.err
