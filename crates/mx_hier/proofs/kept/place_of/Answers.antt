use Rattle.std.proofs.Common.{Ok, Err}
use Rattle.mx_hier.proofs.OrderLaws.{put_sorted}
use Rattle.mx_hier.proofs.kept.place_of.Goals as goal

pub returns-in-Ok-clause-sorted : goal.returns-in-Ok-clause-sorted
returns-in-Ok-clause-sorted c = put_sorted c.args.name.now c.args.names.now (Ok c.in-Ok.at) c.requires c.in-Ok.ensures.bound c.in-Ok.ensures.position

pub returns-in-Err-clause-sorted : goal.returns-in-Err-clause-sorted
returns-in-Err-clause-sorted c = put_sorted c.args.name.now c.args.names.now (Err c.in-Err.at) c.requires c.in-Err.ensures.bound c.in-Err.ensures.position
