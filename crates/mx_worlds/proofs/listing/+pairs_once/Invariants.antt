use Rattle.std.proofs.Common.{length}
use Rattle.mx_worlds.proofs.listing.+pairs_once.Given as goal

abbrev pub decreases-pairs_once : goal.decreases-pairs_once
decreases-pairs_once l = length l.changes.now
