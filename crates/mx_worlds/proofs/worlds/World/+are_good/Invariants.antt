use Rattle.std.proofs.Common.{length}
use Rattle.mx_worlds.proofs.worlds.World.+are_good.Given as goal

abbrev pub decreases-are_good : goal.decreases-are_good
decreases-are_good l = length l.changes.now
