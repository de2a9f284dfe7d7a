use Rattle.mx_ptr.proofs.DigitLaws.{pointer_digits, link_digits}
use Rattle.mx_ptr.proofs.laws.words_in_octal.Goals as goal

pub returns-clause-pointer : goal.returns-clause-pointer
returns-clause-pointer c = pointer_digits c.args.pointer.now

pub returns-clause-link : goal.returns-clause-link
returns-clause-link c = link_digits c.args.index
