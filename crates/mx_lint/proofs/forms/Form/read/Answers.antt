use Rattle.mx_lint.proofs.FormLaws.{named_known}
use Rattle.mx_lint.proofs.forms.Form.read.Goals as goal

pub returns-clause-known : goal.returns-clause-known
returns-clause-known c = named_known c.args.word.now c.with_word.result c.with_word.ensures
