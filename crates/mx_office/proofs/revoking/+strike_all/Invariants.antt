use Rattle.std.proofs.Common.{length}
use Rattle.mx_office.proofs.revoking.+strike_all.Given as goal

abbrev pub decreases-strike_all : goal.decreases-strike_all
decreases-strike_all g l = length l.changes.now
