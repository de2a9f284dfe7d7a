use Rattle.std.proofs.Common.{◌∙◌}
use Rattle.mx_request.proofs.WordLengths.{as_long}
use Rattle.mx_request.proofs.reading.kinds.Kind.read.Goals as goal

pub returns-in-4 : goal.returns-in-4
returns-in-4 c = c.with_word.ensures ∙ as_long c.args.word.now 4 c.in-4.is

pub returns-in-6 : goal.returns-in-6
returns-in-6 c = c.with_word-in-6.ensures ∙ as_long c.args.word.now 6 c.in-6.is

pub returns-in-7 : goal.returns-in-7
returns-in-7 c = c.with_word-in-7.ensures ∙ as_long c.args.word.now 7 c.in-7.is

pub returns-in-8 : goal.returns-in-8
returns-in-8 c = c.with_word-in-8.ensures ∙ as_long c.args.word.now 8 c.in-8.is

pub returns-in-9 : goal.returns-in-9
returns-in-9 c = c.with_word-in-9.ensures ∙ as_long c.args.word.now 9 c.in-9.is

pub returns-in-10 : goal.returns-in-10
returns-in-10 c = c.with_word-in-10.ensures ∙ as_long c.args.word.now 10 c.in-10.is

pub returns-in-11 : goal.returns-in-11
returns-in-11 c = c.with_word-in-11.ensures ∙ as_long c.args.word.now 11 c.in-11.is

pub returns-in-12 : goal.returns-in-12
returns-in-12 c = c.with_word-in-12.ensures ∙ as_long c.args.word.now 12 c.in-12.is

pub returns-in-13 : goal.returns-in-13
returns-in-13 c = c.with_word-in-13.ensures ∙ as_long c.args.word.now 13 c.in-13.is

pub returns-in-16 : goal.returns-in-16
returns-in-16 c = c.with_word-in-16.ensures ∙ as_long c.args.word.now 16 c.in-16.is
