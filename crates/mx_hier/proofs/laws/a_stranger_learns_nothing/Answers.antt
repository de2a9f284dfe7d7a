use Rattle.mx_hier.specs.Who.{caller}
use Rattle.mx_hier.proofs.StrangerLaws.{entry_reticent, status_reticent, list_reticent, directory_reticent, segment_reticent}
use Rattle.mx_hier.proofs.laws.a_stranger_learns_nothing.Goals as goal

pub returns-clause-entry : goal.returns-clause-entry
returns-clause-entry c = entry_reticent c.args.hier.now (caller c.args.who.now) c.args.path.now c.args.follow c.requires

pub returns-clause-status : goal.returns-clause-status
returns-clause-status c = status_reticent c.args.hier.now (caller c.args.who.now) c.args.path.now c.requires

pub returns-clause-list : goal.returns-clause-list
returns-clause-list c = list_reticent c.args.hier.now (caller c.args.who.now) c.args.path.now c.requires

pub returns-clause-directory : goal.returns-clause-directory
returns-clause-directory c = directory_reticent c.args.hier.now (caller c.args.who.now) c.args.path.now c.requires

pub returns-clause-segment : goal.returns-clause-segment
returns-clause-segment c = segment_reticent c.args.hier.now (caller c.args.who.now) c.args.path.now c.requires
