use Rattle.std.proofs.Common.{get_or}
use Rattle.mx_hier.proofs.SortLaws.{same_name}
use Rattle.mx_hier.proofs.OrderLaws.{found_there}
use Rattle.mx_hier.proofs.kept.position_of.Goals as goal

pub returns-in-Ok-clause-name : goal.returns-in-Ok-clause-name
returns-in-Ok-clause-name c = same_name (get_or c.args.names.now c.in-Ok.at c.args.name.now) c.args.name.now (c.in-Ok.ensures.position c.args.name.now)

pub returns-in-Err-clause-within : goal.returns-in-Err-clause-within
returns-in-Err-clause-within c = absurd (found_there c.args.name.now c.args.names.now c.in-Err.at c.requires.sorted c.in-Err.ensures.position c.requires.there)

pub returns-in-Err-clause-name : goal.returns-in-Err-clause-name
returns-in-Err-clause-name c = absurd (found_there c.args.name.now c.args.names.now c.in-Err.at c.requires.sorted c.in-Err.ensures.position c.requires.there)
