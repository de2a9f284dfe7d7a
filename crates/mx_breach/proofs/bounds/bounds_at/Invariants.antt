use Rattle.std.proofs.Common.{◌≡◌, drop}
use Rattle.mx_points.specs.Seen.{greatest, seen}
use Rattle.mx_breach.proofs.bounds.bounds_at.Given as goal

abbrev pub invariant-loop-deed : goal.invariant-loop-deed
invariant-loop-deed l = greatest seen l.floor (drop l.deed-index l.before) ≡ greatest seen l.setup l.before
