use Rattle.std.proofs.Common.{length}
use Rattle.mx_office.proofs.settling.+settle_own.Given as goal

abbrev pub decreases-settle_own : goal.decreases-settle_own
decreases-settle_own g l = length l.changes.now
