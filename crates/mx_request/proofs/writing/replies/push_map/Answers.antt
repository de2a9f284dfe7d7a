use Rattle.mx_request.proofs.GrowthLaws.{four_pieces, grown_from, grown_last, grown_on}
use Rattle.mx_request.proofs.writing.replies.push_map.Goals as goal

pub returns-in_err-push_words-2-clause-err : goal.returns-in_err-push_words-2-clause-err
returns-in_err-push_words-2-clause-err c = grown_on _ _ _ _ (_, c.in_ok-push_words.ensures.ok) c.in_err-push_words-2.ensures.err

pub returns-in_err-push_words-3-clause-err : goal.returns-in_err-push_words-3-clause-err
returns-in_err-push_words-3-clause-err c = grown_on _ _ _ _ (grown_from _ _ _ _ c.in_ok-push_words.ensures.ok (_, c.in_ok-push_words-2.ensures.ok)) c.in_err-push_words-3.ensures.err

pub returns-clause-ok : goal.returns-clause-ok
returns-clause-ok c = four_pieces _ _ _ _ _ _ _ _ _ _ c.in_ok-push_words.ensures.ok c.in_ok-push_words-2.ensures.ok c.in_ok-push_words-3.ensures.ok c.push_last.ensures.ok

pub returns-clause-err : goal.returns-clause-err
returns-clause-err c = grown_last c.push_last.result _ _ _ (grown_from _ _ _ _ c.in_ok-push_words.ensures.ok (grown_from _ _ _ _ c.in_ok-push_words-2.ensures.ok (_, c.in_ok-push_words-3.ensures.ok))) c.push_last.ensures.err
