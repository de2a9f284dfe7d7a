use Rattle.std.proofs.Common.{◌≡◌, map, take}
use Rattle.mx_kst.specs.Terminating.{lot_without}
use Rattle.mx_fresh.proofs.known.sections_without.Given as goal

abbrev pub invariant-loop-lot : goal.invariant-loop-lot
invariant-loop-lot l = l.after.items ≡ map (lot_without l.segno) (take l.lot-index l.lots)
