use Rattle.std.proofs.Common.{length}
use Rattle.mx_worlds.proofs.covering.+covered_anew.Given as goal

abbrev pub decreases-covered_anew : goal.decreases-covered_anew
decreases-covered_anew l = length l.changes.now
