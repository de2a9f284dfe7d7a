use Rattle.std.proofs.Common.{length}
use Rattle.mx_worlds.proofs.listing.+pages_once.Given as goal

abbrev pub decreases-pages_once : goal.decreases-pages_once
decreases-pages_once l = length l.given.now
