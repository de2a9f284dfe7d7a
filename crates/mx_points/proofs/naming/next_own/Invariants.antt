use Rattle.std.proofs.Common.{◌≡◌}
use Rattle.mx_points.specs.Own.{own_from}
use Rattle.mx_points.proofs.naming.next_own.Given as goal

-- the entries before are others'
abbrev pub invariant-loop-place : goal.invariant-loop-place
invariant-loop-place l = own_from l.p l.journal l.from ≡ own_from l.p l.journal l.place
