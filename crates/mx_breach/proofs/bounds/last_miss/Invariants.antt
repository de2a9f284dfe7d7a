use Rattle.std.proofs.Common.{◌≡◌, drop}
use Rattle.mx_points.specs.Seen.{greatest, missed}
use Rattle.mx_breach.proofs.bounds.last_miss.Given as goal

abbrev pub invariant-loop-deed : goal.invariant-loop-deed
invariant-loop-deed l = greatest (missed l.segno) l.last (drop l.deed-index l.before) ≡ greatest (missed l.segno) 0 l.before
