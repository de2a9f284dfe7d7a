use Rattle.std.proofs.Common.{length}
use Rattle.mx_office.proofs.revoking.+await_all.Given as goal

abbrev pub decreases-await_all : goal.decreases-await_all
decreases-await_all g l = length l.changes.now
