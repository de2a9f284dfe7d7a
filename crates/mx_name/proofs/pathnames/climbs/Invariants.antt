use Rattle.std.proofs.Common.{◌≡◌, ◌+◌, drop}
use Rattle.mx_name.specs.Pathnames.{climbs}
use Rattle.mx_name.proofs.pathnames.climbs.Given as goal

-- the bytes so far are all `<`
abbrev pub invariant-loop-i : goal.invariant-loop-i
invariant-loop-i l = climbs l.text ≡ l.i + climbs (drop l.i l.text)
