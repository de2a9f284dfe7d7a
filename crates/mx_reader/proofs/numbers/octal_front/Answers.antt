use Rattle.mx_sdw.proofs.OctalLaws.{below_with_more}
use Rattle.mx_reader.proofs.numbers.octal_front.Goals as goal

pub returns-in-48-clause-bound : goal.returns-in-48-clause-bound
returns-in-48-clause-bound c = below_with_more c.octals_on.result.0 1 c.args.digits c.octals_on.ensures.bound c.requires.some
