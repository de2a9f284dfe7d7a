use Rattle.std.proofs.Common.{◌≡◌, ◌++◌, take, drop, map}
use Rattle.mx_kst.specs.Terminating.{lot_without}
use Rattle.mx_kst.proofs.lots.free.Given as goal

abbrev pub invariant-loop-lot : goal.invariant-loop-lot
invariant-loop-lot l = l.lots ≡ map (lot_without l.segno) (take l.lot-index l.initial.lots) ++ drop l.lot-index l.initial.lots
