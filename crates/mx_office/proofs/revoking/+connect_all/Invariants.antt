use Rattle.std.proofs.Common.{length}
use Rattle.mx_office.proofs.revoking.+connect_all.Given as goal

abbrev pub decreases-connect_all : goal.decreases-connect_all
decreases-connect_all g l = length l.changes.now
