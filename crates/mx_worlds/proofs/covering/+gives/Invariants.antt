use Rattle.std.proofs.Common.{length}
use Rattle.mx_worlds.proofs.covering.+gives.Given as goal

abbrev pub decreases-gives : goal.decreases-gives
decreases-gives l = length l.given.now
