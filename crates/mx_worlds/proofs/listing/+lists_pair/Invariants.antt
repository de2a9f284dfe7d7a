use Rattle.std.proofs.Common.{length}
use Rattle.mx_worlds.proofs.listing.+lists_pair.Given as goal

abbrev pub decreases-lists_pair : goal.decreases-lists_pair
decreases-lists_pair l = length l.changes.now
