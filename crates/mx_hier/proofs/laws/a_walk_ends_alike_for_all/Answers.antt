use Rattle.mx_hier.specs.Who.{caller}
use Rattle.mx_hier.proofs.WalkLaws.{ends_alike}
use Rattle.mx_hier.proofs.laws.a_walk_ends_alike_for_all.Goals as goal

pub returns : goal.returns
returns c = ends_alike c.args.hier.now (caller c.args.who.now) (caller c.args.other.now) c.args.path.now c.args.follow c.requires
