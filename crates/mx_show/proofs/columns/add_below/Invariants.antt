use Rattle.std.proofs.Common.{length}
use Rattle.mx_show.proofs.columns.add_below.Given as goal

-- the bytes that are left
abbrev pub decreases-loop-line : goal.decreases-loop-line
decreases-loop-line l = length l.rest
