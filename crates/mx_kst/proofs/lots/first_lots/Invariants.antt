use Rattle.std.proofs.Common.{◌≡◌, ◌<◌, map}
use Rattle.std.specs.List.{range_with_len}
use Rattle.std.specs.Vec.{vec_capacity}
use Rattle.mx_kst.specs.declared.lots.Lot.TheVariants.{Stack}
use Rattle.mx_kst.proofs.lots.first_lots.Given as goal

abbrev pub invariant-loop-n : goal.invariant-loop-n
invariant-loop-n l = (l.lots.items ≡ map Stack (range_with_len 0 l.n)) × (l.last < vec_capacity l.lots)
