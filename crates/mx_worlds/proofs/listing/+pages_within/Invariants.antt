use Rattle.std.proofs.Common.{length}
use Rattle.mx_worlds.proofs.listing.+pages_within.Given as goal

abbrev pub decreases-pages_within : goal.decreases-pages_within
decreases-pages_within l = length l.given.now
