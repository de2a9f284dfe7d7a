use Rattle.mx_hier.specs.Who.{caller}
use Rattle.mx_hier.proofs.WalkLaws.{ends_at_no_link}
use Rattle.mx_hier.proofs.laws.a_followed_walk_ends_at_no_link.Goals as goal

pub returns : goal.returns
returns c = ends_at_no_link c.args.hier.now (caller c.args.who.now) c.args.path.now
