use Rattle.mx_sdw.proofs.OctalLaws.{is_octal-octal, octal_value-octal, octal-octal_value, octal_number_exactly}
use Rattle.mx_sdw.proofs.laws.each_octal_number_has_one_spelling.Goals as goal

pub returns-clause-spelled : goal.returns-clause-spelled
returns-clause-spelled c = (is_octal-octal c.args.n, octal_value-octal c.args.n)

pub returns-clause-read : goal.returns-clause-read
returns-clause-read c = octal-octal_value c.args.text.now

pub returns-clause-exactly : goal.returns-clause-exactly
returns-clause-exactly c = octal_number_exactly c.args.digits c.args.text.now c.args.n
